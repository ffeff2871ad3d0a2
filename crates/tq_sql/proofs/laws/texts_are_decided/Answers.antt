use Rattle.tq_sql.proofs.FaultLemmas.{decided}
use Rattle.tq_sql.proofs.laws.texts_are_decided.Goals as goal

pub returns : goal.returns
returns c = decided
