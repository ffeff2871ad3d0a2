use Rattle.tq_import.proofs.RejectLemmas.{split}
use Rattle.tq_import.proofs.laws.records_are_split.Goals as goal

pub returns : goal.returns
returns c = split
