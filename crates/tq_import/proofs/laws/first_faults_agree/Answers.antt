use Rattle.tq_import.proofs.RejectLemmas.{first_faults}
use Rattle.tq_import.proofs.laws.first_faults_agree.Goals as goal

pub returns : goal.returns
returns c = first_faults
