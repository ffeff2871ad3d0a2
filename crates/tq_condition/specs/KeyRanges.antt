-- The range to which a condition restricts the number at a place of a row. This project's own.
use Rattle.std.specs.Prelude.{◌≡◌, ℕ, ℤ, IsTrue, Bool, List, Option, FitsSigned}
use Rattle.std.specs.Int.{w64}
use Rattle.tq_base.specs.RowValues.{value_at}
use Rattle.tq_base.specs.declared.value.Value.{Value}
use Rattle.tq_base.specs.declared.key_range.KeyRange.{KeyRange}
use Rattle.tq_base.specs.Contents.{Int}
use Rattle.tq_base.specs.KeyRanges.{IsInRange, IsInSomeRange}
use Rattle.tq_base.specs.ValueOrder.{value_cmp}
use Rattle.tq_condition.specs.declared.condition.Compare.{Compare}
use Rattle.tq_condition.specs.declared.condition.Operand.{Operand}
use Rattle.tq_condition.specs.declared.condition.Test.{Test}
use Rattle.tq_condition.specs.Conditions.{accepts, operand_value, passes}

-- in each row that passes the condition, the number at the place lies in the range, if it has 64 signed bits; without a
-- range no such row passes
abbrev pub BoundsNumbers : Test → ℕ → Option KeyRange → Type 0
BoundsNumbers test place allowed = (row : List Value) (n : ℤ) → value_at row place ≡ Int n → FitsSigned w64 n → IsTrue (passes test row) → IsInSomeRange allowed n

-- the same for each row on which the condition has this truth, and whose number lies in the first range
abbrev pub BoundsWithin : Test → Bool → ℕ → Option KeyRange → Option KeyRange → Type 0
BoundsWithin test wanted place within allowed =
    (row : List Value) (n : ℤ) → value_at row place ≡ Int n → FitsSigned w64 n → passes test row ≡ wanted → IsInSomeRange within n → IsInSomeRange allowed n

-- the numbers of 64 signed bits for which the comparison with the value holds lie in the range
abbrev pub HasValueRange : Compare → Value → Option KeyRange → Type 0
HasValueRange op value allowed = (n : ℤ) → FitsSigned w64 n → IsTrue (accepts op (value_cmp (Int n) value)) → IsInSomeRange allowed n

-- for each row for which the comparison holds, the number at the place lies in the range, if it has 64 signed bits
abbrev pub HasCompared : Operand → Compare → Operand → ℕ → Option KeyRange → Type 0
HasCompared left op right place allowed =
    (row : List Value) (n : ℤ) → value_at row place ≡ Int n → FitsSigned w64 n → IsTrue (accepts op (value_cmp (operand_value left row) (operand_value right row))) → IsInSomeRange allowed n

-- each row with a number of the range in the column passes the condition
abbrev pub IsSufficient : Test → ℕ → KeyRange → Type 0
IsSufficient test column range = (row : List Value) (n : ℤ) → value_at row column ≡ Int n → IsInRange range n → IsTrue (passes test row)
