use Rattle.tq_totals.proofs.PeriodLemmas.{periods_are}
use Rattle.tq_totals.proofs.laws.periods_are_runs.Goals as goal

pub returns : goal.returns
returns c = periods_are
