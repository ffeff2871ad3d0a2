use Rattle.std.proofs.Common.{◌≡◌, map, take}
use Rattle.tq_event.specs.Entries.{entry_in}
use Rattle.tq_event.specs.Tables.{entries_from}
use Rattle.tq_event.proofs.entry.entries_of.Given as goal

abbrev pub invariant-tables : goal.invariant-tables
invariant-tables l = map entry_in l.entries.items ≡ entries_from 0 (take l.table l.tables)
