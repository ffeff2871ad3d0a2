use Rattle.std.proofs.Common.{◌≡◌, ◌-◌, ◌<◌, ◌≤◌, length}
use Rattle.tq_draw.proofs.CalendarLemmas.{before}
use Rattle.tq_draw.proofs.calendar.first_days.Given as goal

abbrev pub invariant-days : goal.invariant-days
invariant-days l = record {
  days : l.days.items ≡ before l.unit l.first l.day;
  few : length l.days.items ≤ l.most;
  from : l.first ≤ l.day;
  within : l.first < l.day → l.day ≤ l.end;
}

abbrev pub decreases-days : goal.decreases-days
decreases-days l = l.end - l.day
