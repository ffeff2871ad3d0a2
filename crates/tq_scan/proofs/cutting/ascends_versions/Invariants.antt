use Rattle.std.proofs.Common.{◌↔◌, drop}
use Rattle.tq_scan.specs.Cuts.{VersionsAscend}
use Rattle.tq_scan.proofs.cutting.ascends_versions.Given as goal

abbrev pub invariant-loop-cut : goal.invariant-loop-cut
invariant-loop-cut l = VersionsAscend l.first l.last l.cuts ↔ VersionsAscend l.before l.last (drop l.cut-index l.cuts)
