-- The tables so far have no more events than were subtracted from the limit.
use Rattle.std.proofs.Common.{◌≤◌, ◌+◌, sum_by, take}
use Rattle.tq_event.specs.Loading.{event_count}
use Rattle.tq_event.specs.Tables.{entries_from}
use Rattle.tq_load.proofs.combining.rows_fit.Given as goal

abbrev pub invariant-tables : goal.invariant-tables
invariant-tables l = l.left + sum_by event_count (entries_from 0 (take l.rows-index l.tables)) ≤ l.limit
