use Rattle.tq_exec.proofs.PartitionLemmas.{rows_part}
use Rattle.tq_exec.proofs.laws.partitions_have_rows.Goals as goal

pub returns : goal.returns
returns c = rows_part
