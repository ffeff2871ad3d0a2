-- Conditions, part by part.
use Rattle.std.specs.Prelude.{◌≡◌, ℕ, ◌+◌, Bool, not, ◌&&◌, ◌||◌, List}
use Rattle.std.proofs.Common.{sym, ap, ◌∙◌}
use Rattle.tq_base.specs.declared.value.Value.{Value}
use Rattle.tq_base.specs.ValueOrder.{value_cmp}
use Rattle.tq_condition.specs.declared.condition.Operand.{Operand}
use Rattle.tq_condition.specs.declared.condition.Compare.{Compare}
use Rattle.tq_condition.specs.declared.condition.Test.{Test, fold-Test}
use Rattle.tq_condition.specs.declared.condition.Test.TheFolds.{fold-roll-Test}
use Rattle.tq_condition.specs.declared.condition.Test.TheOpen.{Test-F}
use Rattle.tq_condition.specs.declared.condition.Test.TheVariants.{Is, And, Or, Not, rolls-Is, rolls-And, rolls-Or, rolls-Not}
use Rattle.tq_condition.specs.Conditions.{accepts, operand_value, passes, passes_step}

pub passes-Is : (left : Operand) (op : Compare) (right : Operand) (row : List Value) → passes (Is left op right) row ≡ accepts op (value_cmp (operand_value left row) (operand_value right row))
unfolding passes
passes-Is left op right row = ap (λ t. fold-Test Bool (passes_step row) t) (sym (rolls-Is left op right)) ∙ fold-roll-Test Bool (passes_step row) (Test-F.Is left op right)

pub passes-And : (a b : Test) (row : List Value) → passes (And a b) row ≡ (passes a row && passes b row)
unfolding passes
passes-And a b row = ap (λ t. fold-Test Bool (passes_step row) t) (sym (rolls-And a b)) ∙ fold-roll-Test Bool (passes_step row) (Test-F.And a b)

pub passes-Or : (a b : Test) (row : List Value) → passes (Or a b) row ≡ (passes a row || passes b row)
unfolding passes
passes-Or a b row = ap (λ t. fold-Test Bool (passes_step row) t) (sym (rolls-Or a b)) ∙ fold-roll-Test Bool (passes_step row) (Test-F.Or a b)

pub passes-Not : (a : Test) (row : List Value) → passes (Not a) row ≡ not (passes a row)
unfolding passes
passes-Not a row = ap (λ t. fold-Test Bool (passes_step row) t) (sym (rolls-Not a)) ∙ fold-roll-Test Bool (passes_step row) (Test-F.Not a)

abbrev pub weight_step : Test-F ℕ → ℕ
weight_step (Test-F.Is left op right) = 0
weight_step (Test-F.And a b) = a + b + 1
weight_step (Test-F.Or a b) = a + b + 1
weight_step (Test-F.Not a) = a + 1

-- the number of pairs and negations in a condition
unfoldable pub weight : Test → ℕ
weight t = fold-Test ℕ weight_step t

pub weight-And : (a b : Test) → weight (And a b) ≡ weight a + weight b + 1
unfolding weight
weight-And a b = ap (λ t. fold-Test ℕ weight_step t) (sym (rolls-And a b)) ∙ fold-roll-Test ℕ weight_step (Test-F.And a b)

pub weight-Or : (a b : Test) → weight (Or a b) ≡ weight a + weight b + 1
unfolding weight
weight-Or a b = ap (λ t. fold-Test ℕ weight_step t) (sym (rolls-Or a b)) ∙ fold-roll-Test ℕ weight_step (Test-F.Or a b)

pub weight-Not : (a : Test) → weight (Not a) ≡ weight a + 1
unfolding weight
weight-Not a = ap (λ t. fold-Test ℕ weight_step t) (sym (rolls-Not a)) ∙ fold-roll-Test ℕ weight_step (Test-F.Not a)
