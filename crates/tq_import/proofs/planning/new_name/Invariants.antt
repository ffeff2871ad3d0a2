-- The remaining renames decide.
use Rattle.std.proofs.Common.{◌≡◌, length}
use Rattle.tq_import.specs.Plans.{new_name}
use Rattle.tq_import.proofs.planning.new_name.Given as goal

abbrev pub invariant-each : goal.invariant-each
invariant-each l = new_name l.renames l.field ≡ new_name l.rest l.field

abbrev pub decreases-each : goal.decreases-each
decreases-each l = length l.rest
