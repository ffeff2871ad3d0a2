use Rattle.tq_load.proofs.ChainLemmas.{records_apart}
use Rattle.tq_load.proofs.laws.records_are_independent.Goals as goal

pub returns : goal.returns
returns c = records_apart
