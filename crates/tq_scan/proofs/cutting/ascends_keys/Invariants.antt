use Rattle.std.proofs.Common.{◌↔◌, drop}
use Rattle.tq_scan.specs.Cuts.{KeysAscend}
use Rattle.tq_scan.proofs.cutting.ascends_keys.Given as goal

abbrev pub invariant-loop-cut : goal.invariant-loop-cut
invariant-loop-cut l = KeysAscend l.low l.high l.cuts ↔ KeysAscend l.before l.high (drop l.cut-index l.cuts)
