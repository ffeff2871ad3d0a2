-- The remaining bytes have the same trimmed form.
use Rattle.std.proofs.Common.{◌≡◌, length, reverse}
use Rattle.tq_plan.specs.Windows.{without_leading_spaces, trimmed}
use Rattle.tq_plan.proofs.windows.trimmed.Given as goal

abbrev pub invariant-back : goal.invariant-back
invariant-back l = reverse (without_leading_spaces (reverse l.rest)) ≡ trimmed l.bytes

abbrev pub decreases-back : goal.decreases-back
decreases-back l = length l.rest
