-- Steps down a condition: one more step, and what a row passes when the condition at the end of the steps is replaced.
use Rattle.std.proofs.Common.{◌≡◌, ◌&&◌, ◌||◌, not, List, [], ◌∷◌, ◌++◌, ℕ, refl, sym, ap, ◌∙◌}
use Rattle.tq_base.specs.declared.value.Value.{Value}
use Rattle.tq_condition.specs.declared.condition.Step.{Step}
use Rattle.tq_condition.specs.declared.condition.Test.{Test}
use Rattle.tq_condition.specs.declared.condition.Test.TheVariants.{And, Or, Not}
use Rattle.tq_condition.specs.Conditions.{passes}
use Rattle.tq_condition.specs.Ordinary.{projection}
use Rattle.tq_condition.specs.Steps.{rebuilt, all_rebuilt}
use Rattle.tq_condition.proofs.Conditions.{passes-And, passes-Or, passes-Not}

pub all_rebuilt_push : (steps : List Step) (s : Step) (part : Test) → all_rebuilt (steps ++ s ∷ []) part ≡ all_rebuilt steps (rebuilt s part)
all_rebuilt_push [] s part = refl
all_rebuilt_push (r ∷ steps) s part = ap (rebuilt r) (all_rebuilt_push steps s part)

-- a row passes the test if its columns pass the part
abbrev pub PassesAs : List ℕ → Test → Test → List Value → Type 0
PassesAs columns part test row = passes test row ≡ passes part (projection columns row)

-- what a row passes at the end of the steps it passes as a whole
abbrev pub LeadBack : List ℕ → List Step → Test → Test → Type 0
LeadBack columns steps part whole = (test : Test) (row : List Value) → PassesAs columns part test row → PassesAs columns whole (all_rebuilt steps test) row

pub deeper : (columns : List ℕ) (steps new : List Step) (s : Step) (part next whole : Test) → new ≡ steps ++ s ∷ []
    → ((test : Test) (row : List Value) → PassesAs columns next test row → PassesAs columns part (rebuilt s test) row) → LeadBack columns steps part whole → LeadBack columns new next whole
deeper columns steps new s part next whole pushed one leads test row same =
    ap (λ l. passes (all_rebuilt l test) row) pushed
    ∙ ap (λ t. passes t row) (all_rebuilt_push steps s test)
    ∙ leads (rebuilt s test) row (one test row same)

pub through_and : (columns : List ℕ) (part next last copy : Test) → part ≡ And next last → ((row : List Value) → PassesAs columns last copy row)
    → (test : Test) (row : List Value) → PassesAs columns next test row → PassesAs columns part (And test copy) row
through_and columns part next last copy is copied test row same =
    passes-And test copy row ∙ (λ i. same i && copied row i) ∙ sym (passes-And next last (projection columns row)) ∙ ap (λ t. passes t (projection columns row)) (sym is)

pub through_or : (columns : List ℕ) (part next last copy : Test) → part ≡ Or next last → ((row : List Value) → PassesAs columns last copy row)
    → (test : Test) (row : List Value) → PassesAs columns next test row → PassesAs columns part (Or test copy) row
through_or columns part next last copy is copied test row same =
    passes-Or test copy row ∙ (λ i. same i || copied row i) ∙ sym (passes-Or next last (projection columns row)) ∙ ap (λ t. passes t (projection columns row)) (sym is)

pub through_not : (columns : List ℕ) (part next : Test) → part ≡ Not next → (test : Test) (row : List Value) → PassesAs columns next test row → PassesAs columns part (Not test) row
through_not columns part next is test row same =
    passes-Not test row ∙ ap not same ∙ sym (passes-Not next (projection columns row)) ∙ ap (λ t. passes t (projection columns row)) (sym is)
