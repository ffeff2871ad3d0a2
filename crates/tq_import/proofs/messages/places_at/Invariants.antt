-- The remaining columns decide.
use Rattle.std.proofs.Common.{◌≡◌, length}
use Rattle.tq_import.specs.Messages.{places_at}
use Rattle.tq_import.proofs.messages.places_at.Given as goal

abbrev pub invariant-each : goal.invariant-each
invariant-each l = places_at l.columns l.place ≡ places_at l.rest l.place

abbrev pub decreases-each : goal.decreases-each
decreases-each l = length l.rest
