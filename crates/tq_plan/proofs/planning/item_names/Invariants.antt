-- The names so far are those of the items so far.
use Rattle.std.proofs.Common.{◌≡◌, take}
use Rattle.tq_plan.specs.Plans.{column_names}
use Rattle.tq_plan.proofs.planning.item_names.Given as goal

abbrev pub invariant-items : goal.invariant-items
invariant-items l = l.names.items ≡ column_names (take l.item-index l.items)
