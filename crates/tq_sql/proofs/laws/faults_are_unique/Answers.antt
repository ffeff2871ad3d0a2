use Rattle.tq_sql.proofs.FaultLemmas.{one_fault}
use Rattle.tq_sql.proofs.laws.faults_are_unique.Goals as goal

pub returns : goal.returns
returns c = one_fault
