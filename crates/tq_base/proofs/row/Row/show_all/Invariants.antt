-- The values of the columns so far were added.
use Rattle.std.proofs.Common.{◌≡◌, ◌++◌, map, take}
use Rattle.tq_base.specs.Parts.{cell, rows_at}
use Rattle.tq_base.proofs.row.Row.show_all.Given as goal

abbrev pub invariant-columns : goal.invariant-columns
invariant-columns l =
    l.room.items ≡ l.fn.room.items ++ map (cell (rows_at l.self-inside.parts.now l.self-inside.place)) (take l.column-index l.column-items)
