-- The values in the columns so far were added.
use Rattle.std.proofs.Common.{◌≡◌, ◌++◌, map, take}
use Rattle.tq_base.specs.RowValues.{value_at}
use Rattle.tq_base.proofs.row.Row.show.Given as goal

abbrev pub invariant-columns : goal.invariant-columns
invariant-columns l = l.room.items ≡ l.fn.room.items ++ map (value_at l.self) (take l.column-index l.columns)
