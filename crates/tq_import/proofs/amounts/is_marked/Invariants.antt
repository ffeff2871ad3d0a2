-- The remaining bytes decide.
use Rattle.std.proofs.Common.{◌≡◌, length}
use Rattle.tq_import.specs.Amounts.{is_marked}
use Rattle.tq_import.proofs.amounts.is_marked.Given as goal

abbrev pub invariant-bytes : goal.invariant-bytes
invariant-bytes l = is_marked l.mark l.whole ≡ is_marked l.mark l.rest

abbrev pub decreases-bytes : goal.decreases-bytes
decreases-bytes l = length l.rest
