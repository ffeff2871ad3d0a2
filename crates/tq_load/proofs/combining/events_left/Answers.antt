use Rattle.std.proofs.Common.{ap, arith, sum_by}
use Rattle.tq_load.specs.Combining.{period_events}
use Rattle.tq_load.proofs.EventLemmas.{told_events}
use Rattle.tq_load.proofs.combining.events_left.Goals as goal

pub returns-then-events-from : goal.returns-then-events-from
returns-then-events-from c table =
    omega (arith, told_events table c.args.rows.now.items, ap (sum_by period_events) c.periods.ensures, c.events_in-events.ensures, c.from.ensures, c.if-events-from)
