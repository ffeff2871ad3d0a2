use Rattle.std.proofs.Common.{◌≤◌, arith, length-drop, sym}
use Rattle.std.proofs.lemmas.Map.Keys.{le_from_not_gt}
use Rattle.tq_agg.proofs.Passing.{bound_there, lt_from_gt, one_more, up_to_last, up_to_later}
use Rattle.tq_agg.proofs.sweeping.starts_by.Goals as goal

pub overflow_add-begun : goal.overflow_add-begun
overflow_add-begun g c = omega (arith, c.starts.invariant.within, c.requires.within, c.requires.short, length-drop c.args.begun (g.T.Timeline.starts c.args.timeline.now))

pub starts-smaller : goal.starts-smaller
starts-smaller g c =
    let there = bound_there (g.T.Timeline.starts c.args.timeline.now) c.args.begun c.starts.len c.in-Some.start c.in-Some.ensures in
    omega (arith, there.0)

pub starts-preserved : goal.starts-preserved
starts-preserved g c =
    let bounds = g.T.Timeline.starts c.args.timeline.now in
    let there = bound_there bounds c.args.begun c.starts.len c.in-Some.start c.in-Some.ensures in
    let le : c.in-Some.start ≤ c.args.at = le_from_not_gt c.in-Some.start c.args.at (sym c.if-gt.ensures) in
    record {
      within = omega (arith, there.0);
      by = one_more bounds c.args.begun c.starts.len c.args.at c.starts.invariant.by c.in-Some.start c.in-Some.ensures le;
    }

pub returns-then-gt : goal.returns-then-gt
returns-then-gt g c = up_to_later (g.T.Timeline.starts c.args.timeline.now) c.args.begun c.starts.len c.args.at c.starts.invariant.by c.in-Some.start c.in-Some.ensures (lt_from_gt c.in-Some.start c.args.at (sym c.if-gt.ensures))

pub returns : goal.returns
returns g c = up_to_last (g.T.Timeline.starts c.args.timeline.now) c.args.begun c.starts.len c.args.at c.starts.invariant.by c.in_default.ensures c.starts.invariant.within
