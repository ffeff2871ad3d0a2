use Rattle.tq_event.proofs.UniqueLemmas.{loaded_within}
use Rattle.tq_event.proofs.laws.loaded_is_within.Goals as goal

pub returns : goal.returns
returns c = loaded_within
