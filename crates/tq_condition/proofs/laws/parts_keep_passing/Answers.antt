use Rattle.tq_condition.proofs.Knowing.{part_loses_none}
use Rattle.tq_condition.proofs.laws.parts_keep_passing.Goals as goal

pub returns : goal.returns
returns c = part_loses_none
