use Rattle.tq_exec.proofs.PartitionLemmas.{partitions_answer}
use Rattle.tq_exec.proofs.laws.partitions_have_answers.Goals as goal

pub returns : goal.returns
returns c = partitions_answer
