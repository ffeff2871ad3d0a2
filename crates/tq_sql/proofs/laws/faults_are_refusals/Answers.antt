use Rattle.tq_sql.proofs.FaultLemmas.{refusals}
use Rattle.tq_sql.proofs.laws.faults_are_refusals.Goals as goal

pub returns : goal.returns
returns c = refusals
