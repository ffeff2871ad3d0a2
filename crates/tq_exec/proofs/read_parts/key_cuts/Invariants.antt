-- The cuts so far ascend, and so they do with one more above the last.
use Rattle.std.proofs.Common.{◌<◌, ◌++◌, ◌∷◌, [], ℕ}
use Rattle.tq_scan.specs.Cuts.{KeysAscend}
use Rattle.tq_exec.proofs.read_parts.key_cuts.Given as goal

abbrev pub invariant-keys : goal.invariant-keys
invariant-keys l = record {
  ascend : KeysAscend l.window.low l.window.high l.cuts.items;
  more : (c : ℕ) → l.before < c → c < l.window.high → KeysAscend l.window.low l.window.high (l.cuts.items ++ c ∷ []);
}
