use Rattle.tq_import.proofs.RejectLemmas.{only_valid}
use Rattle.tq_import.proofs.laws.valid_records_agree.Goals as goal

pub returns : goal.returns
returns c = only_valid
