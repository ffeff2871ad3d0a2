use Rattle.tq_event.proofs.UniqueLemmas.{loaded_once}
use Rattle.tq_event.proofs.laws.loaded_is_unique.Goals as goal

pub returns : goal.returns
returns c = loaded_once
