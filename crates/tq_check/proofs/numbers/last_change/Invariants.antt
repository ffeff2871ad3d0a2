use Rattle.std.proofs.Common.{◌≡◌, ◌<◌, take}
use Rattle.tq_check.specs.Numbers.{last_change}
use Rattle.tq_check.proofs.numbers.last_change.Given as goal

abbrev pub invariant-periods : goal.invariant-periods
invariant-periods l = record {
  value : l.last ≡ last_change (take l.period-index l.fn.periods);
  within : l.last < 1000000000000;
}
