-- The place lies in the bytes.
use Rattle.std.proofs.Common.{◌≤◌, length}
use Rattle.tq_load.proofs.cut.cut_within.Given as goal

abbrev pub invariant-lines : goal.invariant-lines
invariant-lines l = l.place ≤ length l.bytes
