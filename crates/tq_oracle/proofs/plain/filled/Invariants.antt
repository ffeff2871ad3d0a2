-- The history has taken the events so far.
use Rattle.std.proofs.Common.{◌≡◌, take}
use Rattle.tq_oracle.proofs.plain.filled.Given as goal

abbrev pub invariant-events : goal.invariant-events
invariant-events l = l.db ≡ record { catalogue = l.fn.catalogue; events = take l.event-index l.event-items }
