use Rattle.tq_event.proofs.DatedLemmas.{loaded_dated}
use Rattle.tq_event.proofs.laws.loaded_are_dated.Goals as goal

pub returns : goal.returns
returns c = loaded_dated c.dates_round_trip.ensures
