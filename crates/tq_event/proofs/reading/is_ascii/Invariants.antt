-- The bytes so far are ASCII, or one was found that is not.
use Rattle.std.proofs.Common.{◌≡◌, ◌<◌, ℕ, get_or, true}
use Rattle.tq_event.proofs.reading.is_ascii.Given as goal

abbrev pub invariant-bytes : goal.invariant-bytes
invariant-bytes l = l.ascii ≡ true → (i : ℕ) → i < l.byte-index → get_or l.bytes i 0 < 128
