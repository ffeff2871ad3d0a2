use Rattle.std.proofs.Common.{◌≡◌, take}
use Rattle.tq_store.proofs.log.Events.to_vec.Given as goal

abbrev pub invariant-events : goal.invariant-events
invariant-events l = l.events.items ≡ take l.number l.self
