use Rattle.std.proofs.Common.{◌≡◌, drop}
use Rattle.tq_event.specs.History.{end_of}
use Rattle.tq_store.proofs.opening.is_open.Given as goal

abbrev pub invariant-events : goal.invariant-events
invariant-events l = record { rest : end_of l.table l.row l.events ≡ end_of l.table l.row (drop l.place l.events) }
