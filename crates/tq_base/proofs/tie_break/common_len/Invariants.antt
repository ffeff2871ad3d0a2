-- The bytes so far are the same.
use Rattle.std.proofs.Common.{◌≡◌, take}
use Rattle.tq_base.proofs.tie_break.common_len.Given as goal

abbrev pub invariant-bytes : goal.invariant-bytes
invariant-bytes l = take l.place l.one ≡ take l.place l.other
