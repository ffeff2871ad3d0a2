-- Conditions on one row, as in SQL without NULL: each is true or false.
use Rattle.std.specs.Prelude.{Bool, true, false, not, ◌&&◌, ◌||◌, List}
use Rattle.std.specs.declared.cmp.Ordering.{Ordering}
use Rattle.std.specs.declared.cmp.Ordering.TheVariants.{Less, Equal, Greater}
use Rattle.tq_base.specs.declared.value.Value.{Value}
use Rattle.tq_base.specs.RowValues.{value_at}
use Rattle.tq_base.specs.ValueOrder.{value_cmp}
use Rattle.tq_condition.specs.declared.condition.Operand.{Operand}
use Rattle.tq_condition.specs.declared.condition.Operand.TheVariants.{Column, Literal}
use Rattle.tq_condition.specs.declared.condition.Compare.{Compare}
use Rattle.tq_condition.specs.declared.condition.Compare.TheVariants as compare
use Rattle.tq_condition.specs.declared.condition.Test.{Test, fold-Test}
use Rattle.tq_condition.specs.declared.condition.Test.TheOpen.{Test-F}

abbrev pub operand_value : Operand → List Value → Value
operand_value (Column place) row = value_at row place
operand_value (Literal value) row = value

-- whether a comparison holds for two values in this order
abbrev pub accepts : Compare → Ordering → Bool
accepts compare.Eq Equal = true
accepts compare.Eq Less = false
accepts compare.Eq Greater = false
accepts compare.Ne Equal = false
accepts compare.Ne Less = true
accepts compare.Ne Greater = true
accepts compare.Lt Less = true
accepts compare.Lt Equal = false
accepts compare.Lt Greater = false
accepts compare.Le Greater = false
accepts compare.Le Less = true
accepts compare.Le Equal = true
accepts compare.Gt Greater = true
accepts compare.Gt Less = false
accepts compare.Gt Equal = false
accepts compare.Ge Less = false
accepts compare.Ge Equal = true
accepts compare.Ge Greater = true

-- one level of a condition whose parts are decided
abbrev pub passes_step : List Value → Test-F Bool → Bool
passes_step row (Test-F.Is left op right) = accepts op (value_cmp (operand_value left row) (operand_value right row))
passes_step row (Test-F.And a b) = a && b
passes_step row (Test-F.Or a b) = a || b
passes_step row (Test-F.Not a) = not a

-- whether the row passes the condition: numbers compare as numbers, texts by their bytes
unfoldable pub passes : Test → List Value → Bool
passes t row = fold-Test Bool (passes_step row) t
