use Rattle.std.proofs.Common.{◌≡◌, ◌++◌, drop}
use Rattle.tq_scan.specs.Cuts.{parts_by_key, parts_of}
use Rattle.tq_scan.proofs.cutting.cut.Given as goal

abbrev pub invariant-loop-cut : goal.invariant-loop-cut
invariant-loop-cut l = l.parts.items ++ parts_by_key l.low l.window.high l.window.first l.window.last l.version_cuts (drop l.cut-index l.key_cuts) ≡ parts_of l.window l.key_cuts l.version_cuts
