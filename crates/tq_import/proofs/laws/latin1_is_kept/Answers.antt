use Rattle.tq_import.proofs.EncodingLemmas.{latin1_kept}
use Rattle.tq_import.proofs.laws.latin1_is_kept.Goals as goal

pub returns : goal.returns
returns c = latin1_kept
