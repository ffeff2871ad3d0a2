use Rattle.tq_plan.proofs.WindowLemmas.{windows_dated}
use Rattle.tq_plan.proofs.laws.windows_are_dated.Goals as goal

pub returns : goal.returns
returns c = windows_dated c.dates_round_trip.ensures
