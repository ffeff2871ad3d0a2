-- The remaining bytes have the same trimmed form.
use Rattle.std.proofs.Common.{◌≡◌, length}
use Rattle.tq_plan.specs.Windows.{without_leading_spaces}
use Rattle.tq_plan.proofs.windows.without_leading_spaces.Given as goal

abbrev pub invariant-front : goal.invariant-front
invariant-front l = without_leading_spaces l.rest ≡ without_leading_spaces l.bytes

abbrev pub decreases-front : goal.decreases-front
decreases-front l = length l.rest
