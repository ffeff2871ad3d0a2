use Rattle.std.proofs.Common.{add-one}
use Rattle.tq_mvbt.proofs.Lists.{map-set}
use Rattle.tq_mvbt.specs.Points.{with_end}
use Rattle.tq_mvbt.proofs.entry.end_range.Goals as goal

pub loop-entry-preserved : goal.loop-entry-preserved
loop-entry-preserved c =
    rw (add-one, c.end_in.ensures, c.loop-entry.invariant)
    (map-set (with_end c.args.low c.args.high c.args.version) c.args.entries.now c.loop-entry.entry-index _ c.loop-entry-test.true)
