-- The remaining kinds decide.
use Rattle.std.proofs.Common.{◌≡◌, length}
use Rattle.tq_import.specs.Plans.{kind_for}
use Rattle.tq_import.proofs.planning.kind_for.Given as goal

abbrev pub invariant-each : goal.invariant-each
invariant-each l = kind_for l.kinds l.field l.found ≡ kind_for l.rest l.field l.found

abbrev pub decreases-each : goal.decreases-each
decreases-each l = length l.rest
