use Rattle.tq_base.proofs.Existence as existence
use Rattle.tq_base.proofs.laws.layers_exist.Goals as goal

pub returns : goal.returns
returns c = existence.layers_exist
