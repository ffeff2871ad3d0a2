-- Conditions, part by part.
use Rattle.std.proofs.Common.{◌≡◌, ◌≢◌, IfErr, IfOk, subst, ℕ, ◌+◌, ◌++◌, List, [], ◌∷◌, Result, Ok, Err, refl, sym, ap, ◌∙◌}
use Rattle.tq_condition.specs.declared.condition.Test.{Test}
use Rattle.tq_condition.specs.declared.condition.Test.TheVariants as test
use Rattle.tq_sql.specs.declared.statement.Term.{Term}
use Rattle.tq_sql.specs.declared.statement.Sign.{Sign}
use Rattle.tq_sql.specs.declared.statement.Cond.{Cond, fold-Cond}
use Rattle.tq_sql.specs.declared.statement.Cond.TheFolds.{fold-roll-Cond}
use Rattle.tq_sql.specs.declared.statement.Cond.TheOpen.{Cond-F}
use Rattle.tq_sql.specs.declared.statement.Cond.TheVariants.{Is, And, Or, Not, rolls-Is, rolls-And, rolls-Or, rolls-Not}
use Rattle.tq_plan.specs.declared.fault.PlanFault.{PlanFault}
use Rattle.tq_plan.specs.declared.fault.PlanFault.TheVariants.{OutOfMemory}
use Rattle.tq_plan.specs.declared.conditions.Step.{Step}
use Rattle.tq_plan.specs.declared.conditions.Step.TheVariants as step
use Rattle.tq_plan.specs.Scope.{Field}
use Rattle.tq_plan.specs.Conditions.{both, comparison_of, negated, test_of, test_step}
use Rattle.tq_plan.specs.Steps.{all_rebuilt, rebuilt}

pub test_of-Is : (fields : List Field) (left : Term) (sign : Sign) (right : Term) → test_of fields (Is left sign right) ≡ comparison_of fields left sign right
unfolding test_of
test_of-Is fields left sign right =
    ap (λ c. fold-Cond (Result Test PlanFault) (test_step fields) c) (sym (rolls-Is left sign right))
    ∙ fold-roll-Cond (Result Test PlanFault) (test_step fields) (Cond-F.Is left sign right)

pub test_of-And : (fields : List Field) (a b : Cond) → test_of fields (And a b) ≡ both test.And (test_of fields a) (test_of fields b)
unfolding test_of
test_of-And fields a b =
    ap (λ c. fold-Cond (Result Test PlanFault) (test_step fields) c) (sym (rolls-And a b))
    ∙ fold-roll-Cond (Result Test PlanFault) (test_step fields) (Cond-F.And a b)

pub test_of-Or : (fields : List Field) (a b : Cond) → test_of fields (Or a b) ≡ both test.Or (test_of fields a) (test_of fields b)
unfolding test_of
test_of-Or fields a b =
    ap (λ c. fold-Cond (Result Test PlanFault) (test_step fields) c) (sym (rolls-Or a b))
    ∙ fold-roll-Cond (Result Test PlanFault) (test_step fields) (Cond-F.Or a b)

pub test_of-Not : (fields : List Field) (a : Cond) → test_of fields (Not a) ≡ negated (test_of fields a)
unfolding test_of
test_of-Not fields a =
    ap (λ c. fold-Cond (Result Test PlanFault) (test_step fields) c) (sym (rolls-Not a))
    ∙ fold-roll-Cond (Result Test PlanFault) (test_step fields) (Cond-F.Not a)

abbrev pub weight_step : Cond-F ℕ → ℕ
weight_step (Cond-F.Is left sign right) = 0
weight_step (Cond-F.And a b) = a + b + 1
weight_step (Cond-F.Or a b) = a + b + 1
weight_step (Cond-F.Not a) = a + 1

-- the number of pairs and negations in a condition
unfoldable pub weight : Cond → ℕ
weight c = fold-Cond ℕ weight_step c

pub weight-And : (a b : Cond) → weight (And a b) ≡ weight a + weight b + 1
unfolding weight
weight-And a b = ap (λ c. fold-Cond ℕ weight_step c) (sym (rolls-And a b)) ∙ fold-roll-Cond ℕ weight_step (Cond-F.And a b)

pub weight-Or : (a b : Cond) → weight (Or a b) ≡ weight a + weight b + 1
unfolding weight
weight-Or a b = ap (λ c. fold-Cond ℕ weight_step c) (sym (rolls-Or a b)) ∙ fold-roll-Cond ℕ weight_step (Cond-F.Or a b)

pub weight-Not : (a : Cond) → weight (Not a) ≡ weight a + 1
unfolding weight
weight-Not a = ap (λ c. fold-Cond ℕ weight_step c) (sym (rolls-Not a)) ∙ fold-roll-Cond ℕ weight_step (Cond-F.Not a)

-- ---- steps

pub all_undone_push : (steps : List Step) (s : Step) (part : Result Test PlanFault) → all_rebuilt (steps ++ s ∷ []) part ≡ all_rebuilt steps (rebuilt s part)
all_undone_push [] s part = refl
all_undone_push (r ∷ steps) s part = ap (rebuilt r) (all_undone_push steps s part)

-- one more step down
pub deeper : (steps new : List Step) (s : Step) (part next whole : Result Test PlanFault) → new ≡ steps ++ s ∷ [] → part ≡ rebuilt s next → all_rebuilt steps part ≡ whole → all_rebuilt new next ≡ whole
deeper steps new s part next whole pushed is leads =
    ap (λ l. all_rebuilt l next) pushed ∙ all_undone_push steps s next ∙ ap (all_rebuilt steps) (sym is) ∙ leads

-- the fault of a part with nothing to its left is that of the whole
pub undone_fault : (s : Step) (fault : PlanFault) → rebuilt s (Err fault) ≡ Err fault
undone_fault (step.And last) fault = refl
undone_fault (step.Or last) fault = refl
undone_fault step.Not fault = refl

pub all_undone_fault : (steps : List Step) (fault : PlanFault) → all_rebuilt steps (Err fault) ≡ Err fault
all_undone_fault [] fault = refl
all_undone_fault (s ∷ steps) fault = ap (rebuilt s) (all_undone_fault steps fault) ∙ undone_fault s fault

-- the planned part is what its definition gives
pub told_is : (meaning told planned : Result Test PlanFault) → told ≡ planned → IfErr told (λ fault. fault ≢ OutOfMemory) → IfOk planned (λ test. meaning ≡ Ok test)
    → IfErr planned (λ fault. fault ≢ OutOfMemory → meaning ≡ Err fault) → meaning ≡ told
told_is meaning (Ok test) planned same known means refuses = subst (λ r. IfOk r (λ test. meaning ≡ Ok test)) (sym same) means
told_is meaning (Err fault) planned same known means refuses = (subst (λ r. IfErr r (λ fault. fault ≢ OutOfMemory → meaning ≡ Err fault)) (sym same) refuses) known
