use Rattle.tq_import.proofs.RejectLemmas.{valid_files}
use Rattle.tq_import.proofs.laws.valid_files_agree.Goals as goal

pub returns : goal.returns
returns c = valid_files
