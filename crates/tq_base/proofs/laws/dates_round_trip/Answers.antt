use Rattle.tq_base.proofs.DateTextLemmas.{dates_told}
use Rattle.tq_base.proofs.laws.dates_round_trip.Goals as goal

pub returns : goal.returns
returns c = dates_told
