-- The map has the sums over the groups of the rows so far.
use Rattle.std.proofs.Common.{◌≡◌, List, take}
use Rattle.std.specs.BTreeMap.{get}
use Rattle.tq_base.specs.ValueOrder.{values_cmp}
use Rattle.tq_base.specs.declared.value.Value.{Value}
use Rattle.tq_totals.specs.Sums.{sums_over}
use Rattle.tq_totals.specs.Totals.{group}
use Rattle.tq_totals.proofs.groups.sums_by_group.Given as goal

abbrev pub invariant-rows : goal.invariant-rows
invariant-rows l = (values : List Value) → get values_cmp l.groups values ≡ sums_over l.summed (group l.by values (take l.place l.rows))
