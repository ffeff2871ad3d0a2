use Rattle.tq_exec.proofs.AggregatePartLemmas.{groups_part}
use Rattle.tq_exec.proofs.laws.partitions_have_groups.Goals as goal

pub returns : goal.returns
returns c = groups_part
