use Rattle.std.proofs.Common.{◌≡◌, length}
use Rattle.tq_diagnostics.specs.Probes.{first_refused}
use Rattle.tq_diagnostics.specs.Views.{part_views}
use Rattle.tq_diagnostics.proofs.probe_statement.first_refused.Given as goal

abbrev pub invariant-parts : goal.invariant-parts
invariant-parts l = first_refused l.catalogue l.fault (part_views l.parts) ≡ first_refused l.catalogue l.fault (part_views l.fn.parts)

abbrev pub decreases-parts : goal.decreases-parts
decreases-parts l = length l.parts
