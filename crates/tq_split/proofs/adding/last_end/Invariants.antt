-- The last end so far.
use Rattle.std.proofs.Common.{◌≤◌, take}
use Rattle.std.specs.Prelude.{All}
use Rattle.tq_base.specs.declared.period.Period.{Period}
use Rattle.tq_base.specs.declared.period.TheConstants.{FOREVER}
use Rattle.tq_split.proofs.adding.last_end.Given as goal

abbrev pub invariant-periods : goal.invariant-periods
invariant-periods l = record {
  positive : 1 ≤ l.last;
  bound : l.last ≤ FOREVER;
  ends : All (λ (period : Period). period.end ≤ l.last) (take l.period-index l.periods);
}
