use Rattle.tq_import.proofs.Latin1Lemmas.{latin1_converted}
use Rattle.tq_import.proofs.laws.latin1_fields_are_converted.Goals as goal

pub returns : goal.returns
returns c = latin1_converted
