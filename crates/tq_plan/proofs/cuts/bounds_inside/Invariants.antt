-- The list has exactly the bounds so far that lie inside.
use Rattle.std.proofs.Common.{◌<◌, length, ℕ}
use Rattle.std.specs.Prelude.{All, slice_index_or}
use Rattle.tq_plan.specs.Cuts.{LiesInside}
use Rattle.tq_plan.proofs.cuts.bounds_inside.Given as goal

abbrev pub invariant-bounds : goal.invariant-bounds
invariant-bounds l = record {
  inside : All (LiesInside l.period) l.inside.items;
  some : (k d : ℕ) → k < l.bound-index → LiesInside l.period (slice_index_or l.bounds k d) → 0 < length l.inside.items;
}
