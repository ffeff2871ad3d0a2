use Rattle.std.proofs.Common.{◌≤◌, arith, length-drop, sym}
use Rattle.std.proofs.lemmas.Map.Keys.{le_from_not_gt}
use Rattle.tq_agg.proofs.Passing.{bound_there, lt_from_gt, one_more, up_to_last, up_to_later}
use Rattle.tq_agg.proofs.sweeping.ends_by.Goals as goal

pub overflow_add-ended : goal.overflow_add-ended
overflow_add-ended g c = omega (arith, c.ends.invariant.within, c.requires.within, c.requires.short, length-drop c.args.ended (g.T.Timeline.ends c.args.timeline.now))

pub ends-smaller : goal.ends-smaller
ends-smaller g c =
    let there = bound_there (g.T.Timeline.ends c.args.timeline.now) c.args.ended c.ends.len c.in-Some.end c.in-Some.ensures in
    omega (arith, there.0)

pub ends-preserved : goal.ends-preserved
ends-preserved g c =
    let bounds = g.T.Timeline.ends c.args.timeline.now in
    let there = bound_there bounds c.args.ended c.ends.len c.in-Some.end c.in-Some.ensures in
    let le : c.in-Some.end ≤ c.args.at = le_from_not_gt c.in-Some.end c.args.at (sym c.if-gt.ensures) in
    record {
      within = omega (arith, there.0);
      by = one_more bounds c.args.ended c.ends.len c.args.at c.ends.invariant.by c.in-Some.end c.in-Some.ensures le;
    }

pub returns-then-gt : goal.returns-then-gt
returns-then-gt g c = up_to_later (g.T.Timeline.ends c.args.timeline.now) c.args.ended c.ends.len c.args.at c.ends.invariant.by c.in-Some.end c.in-Some.ensures (lt_from_gt c.in-Some.end c.args.at (sym c.if-gt.ensures))

pub returns : goal.returns
returns g c = up_to_last (g.T.Timeline.ends c.args.timeline.now) c.args.ended c.ends.len c.args.at c.ends.invariant.by c.in_default.ensures c.ends.invariant.within
