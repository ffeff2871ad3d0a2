-- The events of the periods so far were counted; each period has at most two.
use Rattle.std.proofs.Common.{◌≡◌, ◌≤◌, ◌*◌, sum_by, take}
use Rattle.tq_load.specs.Combining.{period_events}
use Rattle.tq_load.proofs.combining.events_in.Given as goal

abbrev pub invariant-periods : goal.invariant-periods
invariant-periods l = record {
  so_far : l.events ≡ sum_by period_events (take l.period-index l.periods);
  few : l.events ≤ 2 * l.period-index;
}
