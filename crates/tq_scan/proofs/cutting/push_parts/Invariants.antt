use Rattle.std.proofs.Common.{◌≡◌, ◌++◌, drop}
use Rattle.tq_scan.specs.Cuts.{VersionsAscend, parts_by_version}
use Rattle.tq_scan.proofs.cutting.push_parts.Given as goal

abbrev pub invariant-loop-cut : goal.invariant-loop-cut
invariant-loop-cut l = record {
  ascend : VersionsAscend l.first l.window.last (drop l.cut-index l.cuts);
  parts : l.parts.items ++ parts_by_version l.low l.high l.first l.window.last (drop l.cut-index l.cuts) ≡ l.initial.parts.items ++ parts_by_version l.low l.high l.window.first l.window.last l.cuts;
}
