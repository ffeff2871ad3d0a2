-- No event so far ends the row.
use Rattle.std.proofs.Common.{◌≡◌, drop}
use Rattle.tq_event.specs.History.{end_of}
use Rattle.tq_reference.proofs.history.end_of.Given as goal

abbrev pub invariant-events : goal.invariant-events
invariant-events l = end_of l.table l.row l.events ≡ end_of l.table l.row (drop l.event-index l.events)
