-- The first days so far were listed, and the label is that of the day before.
use Rattle.std.proofs.Common.{◌≡◌, ◌≤◌, ◌<◌, ◌-◌, take}
use Rattle.tq_totals.specs.Calendar.{first_days, label}
use Rattle.tq_totals.proofs.periods.first_days.Given as goal

abbrev pub invariant-days : goal.invariant-days
invariant-days l = record {
  days : l.days.items ≡ first_days l.unit l.first l.number;
  within : l.first < l.number → l.number ≤ l.fn.end;
  short : l.last_len ≤ 12;
  last : l.first < l.number → take l.last_len l.last ≡ label l.unit (l.number - 1);
}
