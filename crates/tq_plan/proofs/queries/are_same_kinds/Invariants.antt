-- The kinds so far are the same.
use Rattle.std.proofs.Common.{◌≡◌, drop}
use Rattle.tq_plan.specs.Plans.{same_kinds}
use Rattle.tq_plan.proofs.queries.are_same_kinds.Given as goal

abbrev pub invariant-places : goal.invariant-places
invariant-places l = same_kinds l.left l.right ≡ same_kinds (drop l.place l.left) (drop l.place l.right)
