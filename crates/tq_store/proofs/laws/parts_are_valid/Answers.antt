use Rattle.tq_store.proofs.WholeLemmas.{parts_valid}
use Rattle.tq_store.proofs.laws.parts_are_valid.Goals as goal

pub returns : goal.returns
returns c = parts_valid
