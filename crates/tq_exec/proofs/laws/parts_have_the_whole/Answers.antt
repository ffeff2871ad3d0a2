use Rattle.tq_exec.proofs.PartLemmas.{parts_have_layers, parts_have_rows}
use Rattle.tq_exec.proofs.laws.parts_have_the_whole.Goals as goal

pub returns : goal.returns
returns c = record { rows = parts_have_rows; layers = parts_have_layers }
