use Rattle.tq_base.proofs.Converse as converse
use Rattle.tq_base.proofs.laws.runs_are_layers.Goals as goal

pub returns : goal.returns
returns c = converse.runs_are_layers
