use Rattle.std.proofs.Common.{◌≡◌, ◌<◌, ◌≤◌, take}
use Rattle.tq_check.specs.Numbers.{first_start}
use Rattle.tq_check.proofs.numbers.first_start.Given as goal

abbrev pub invariant-periods : goal.invariant-periods
invariant-periods l = record {
  value : l.first ≡ first_start (take l.period-index l.fn.periods);
  within : l.first ≤ 1000000000000;
  some : 0 < l.period-index → l.first < 1000000000000;
}
