use Rattle.tq_import.proofs.RejectLemmas.{rejects_read}
use Rattle.tq_import.proofs.laws.rejects_are_read_back.Goals as goal

pub returns : goal.returns
returns c = rejects_read
