-- Between two bounds; no values are in the scratch memory.
use Rattle.std.proofs.Common.{◌≡◌, ◌-◌, ◌+◌, [], length}
use Rattle.tq_condition.specs.Ordinary.{projection}
use Rattle.tq_agg.proofs.Starts.{totals_shown, Counting}
use Rattle.tq_agg.proofs.sweeping.sweep.Given as goal

abbrev pub invariant-bounds : goal.invariant-bounds
invariant-bounds g l = record {
  empty : l.scratch.values.items ≡ [];
  width : l.out.width ≡ l.initial.out.width;
  totals : l.scratch.totals.items ≡ g.T.Timeline.totals l.timeline l.place.begun l.place.ended;
  counting : Counting (totals_shown l.key.shows_zero (projection l.key.columns.now l.key.row.now) (g.T.Timeline.totals l.timeline)) (g.T.Timeline.starts l.timeline) (g.T.Timeline.ends l.timeline) l.window l.initial.out.items l.place.begun l.place.ended l.since l.out.items;
}

abbrev pub decreases-bounds : goal.decreases-bounds
decreases-bounds g l = (length (g.T.Timeline.starts l.timeline) - l.place.begun) + (length (g.T.Timeline.ends l.timeline) - l.place.ended)
