use Rattle.std.proofs.Common.{◌≡◌, take}
use Rattle.tq_snapshot.proofs.shared.SharedStore.filled.Given as goal

abbrev pub invariant-loop-event : goal.invariant-loop-event
invariant-loop-event l = l.db ≡ record { catalogue = l.fn.catalogue; events = take l.event-index l.events }
