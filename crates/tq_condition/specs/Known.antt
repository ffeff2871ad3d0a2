-- The truth that a condition can have if only some values of a row are known.
use Rattle.std.specs.Prelude.{ℕ, ◌-◌, ◌≡◌, Bool, true, false, not, ◌&&◌, ◌||◌, List, ◌++◌, length, if◌then◌else◌, nat_le, Option, Some, None, slice_get}
use Rattle.tq_base.specs.declared.value.Value.{Value}
use Rattle.tq_base.specs.ValueOrder.{value_cmp}
use Rattle.tq_condition.specs.declared.condition.Operand.{Operand}
use Rattle.tq_condition.specs.declared.condition.Operand.TheVariants.{Column, Literal}
use Rattle.tq_condition.specs.declared.condition.Compare.{Compare}
use Rattle.tq_condition.specs.declared.condition.Test.{Test, fold-Test}
use Rattle.tq_condition.specs.declared.condition.Test.TheOpen.{Test-F}
use Rattle.tq_condition.specs.declared.known.Known.{Known}
use Rattle.tq_condition.specs.declared.known.Known.TheVariants as known
use Rattle.tq_condition.specs.Conditions.{accepts, operand_value, passes}

-- the value in the column of a row of which the part from a place on is known
abbrev pub column_value : ℕ → List Value → ℕ → Option Value
column_value first part column = if nat_le first column then slice_get part (column - first) else None

-- the operand's value in a row of which the part from a place on is known
abbrev pub part_value : ℕ → List Value → Operand → Option Value
part_value first part (Column column) = column_value first part column
part_value first part (Literal value) = Some value

-- the operand's value, if it is known
abbrev pub known_value : Known → Operand → Option Value
known_value (known.Values row) operand = Some (operand_value operand row.now)
known_value (known.Whole row) operand = Some (operand_value operand row.now)
known_value (known.Both left right) operand = Some (operand_value operand (left.now ++ right.now))
known_value (known.Part part first) operand = part_value first part.now operand

-- the operand's value in a fully known row
abbrev pub row_value : List Value → Operand → Option Value
row_value row operand = Some (operand_value operand row)

-- the truth if true is wanted, its negation otherwise
abbrev pub agrees : Bool → Bool → Bool
agrees truth true = truth
agrees truth false = not truth

-- an unknown value can be less than, equal to or greater than the other
abbrev pub may_compare : Compare → Option Value → Option Value → Bool → Bool
may_compare op (Some left) (Some right) wanted = agrees (accepts op (value_cmp left right)) wanted
may_compare op (Some left) None wanted = true
may_compare op None right wanted = true

-- one level of a condition, given the truths that its parts can have
abbrev pub may_be_step : (Operand → Option Value) → Test-F (Bool → Bool) → Bool → Bool
may_be_step value (Test-F.Is left op right) wanted = may_compare op (value left) (value right) wanted
may_be_step value (Test-F.And a b) true = a true && b true
may_be_step value (Test-F.And a b) false = a false || b false
may_be_step value (Test-F.Or a b) true = a true || b true
may_be_step value (Test-F.Or a b) false = a false && b false
may_be_step value (Test-F.Not a) wanted = a (not wanted)

-- whether the condition can have this truth, part by part
unfoldable pub may_be : (Operand → Option Value) → Test → Bool → Bool
may_be value t = fold-Test (Bool → Bool) (may_be_step value) t

-- whether a row can pass of which these values from a place on are known; each comparison is judged by itself
abbrev pub may_pass : ℕ → List Value → Test → Bool
may_pass first part test = may_be (part_value first part) test true

-- no row that passes is lost
abbrev pub KeepsPassing : Type 0
KeepsPassing = (test : Test) (before part after : List Value) → may_pass (length before) part test ≡ false → passes test (before ++ (part ++ after)) ≡ false

-- n known columns from the place on determine the operand's value
abbrev pub IsKnownOperand : Operand → ℕ → ℕ → Type 0
IsKnownOperand operand first count = (before part after : List Value) → length before ≡ first → length part ≡ count → part_value first part operand ≡ row_value (before ++ (part ++ after)) operand

-- and they decide the condition
abbrev pub IsKnownTest : Test → ℕ → ℕ → Type 0
IsKnownTest test first count = (before part after : List Value) → length before ≡ first → length part ≡ count
    → (wanted : Bool) → may_be (part_value first part) test wanted ≡ may_be (row_value (before ++ (part ++ after))) test wanted
