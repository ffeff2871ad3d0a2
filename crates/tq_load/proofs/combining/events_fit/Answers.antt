use Rattle.std.proofs.Common.{arith}
use Rattle.tq_event.specs.Tables.{entries_from}
use Rattle.tq_load.proofs.EventLemmas.{one_more_table}
use Rattle.tq_load.proofs.combining.events_fit.Goals as goal

pub tables-init : goal.tables-init
unfolding entries_from
tables-init c = omega arith

pub tables-preserved : goal.tables-preserved
tables-preserved c =
    let place = c.tables.rows-index in
    omega (arith, one_more_table c.args.tables.now place c.rows-item.result c.tables-test.true c.rows-item.is, c.in-Some.ensures place, c.tables.invariant)
