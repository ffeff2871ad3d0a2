use Rattle.std.proofs.Common.{◌≡◌, ◌++◌, drop}
use Rattle.tq_diagnostics.specs.Parts.{after_pairs, pair_parts}
use Rattle.tq_diagnostics.specs.Views.{pair_views, part_views}
use Rattle.tq_diagnostics.proofs.parts.push_pairs.Given as goal

abbrev pub invariant-pairs : goal.invariant-pairs
invariant-pairs l = record {
  parts : part_views l.parts.items ++ pair_parts l.sources l.next (pair_views (drop l.pair-index l.pairs)) ≡ part_views l.initial.parts.items ++ pair_parts l.sources l.fn.at (pair_views l.pairs);
  after : after_pairs l.next (pair_views (drop l.pair-index l.pairs)) ≡ after_pairs l.fn.at (pair_views l.pairs);
}
