use Rattle.tq_exec.proofs.LinkedPartLemmas.{linked_are_parts}
use Rattle.tq_exec.proofs.PartitionPartLemmas.{partitions_are_parts}
use Rattle.tq_exec.proofs.PieceLemmas.{periods_are_parts}
use Rattle.tq_exec.proofs.RangeLemmas.{ranges_are_parts}
use Rattle.tq_exec.proofs.laws.partitionings_make_parts.Goals as goal

pub returns : goal.returns
returns c = record {
  values = partitions_are_parts c.partitions_have_answers.ensures;
  linked = linked_are_parts c.partitions_have_rows.ensures;
  periods = periods_are_parts;
  ranges = ranges_are_parts;
}
