use Rattle.std.proofs.Common.{◌≡◌, vec_len}
use Rattle.tq_run.proofs.ordering.empty_slots.Given as goal

abbrev pub invariant-loop : goal.invariant-loop
invariant-loop g l = vec_len l.places ≡ l.counter
