use Rattle.std.proofs.Common.{◌≡◌, ◌++◌, map, take}
use Rattle.tq_event.specs.Entries.{entry_in}
use Rattle.tq_event.specs.Tables.{row_entry}
use Rattle.tq_event.proofs.entry.add_entries.Given as goal

abbrev pub invariant-rows : goal.invariant-rows
invariant-rows l = map entry_in l.entries.items ≡ map entry_in l.fn.entries.items ++ map (row_entry l.table) (take l.number l.rows.items)
