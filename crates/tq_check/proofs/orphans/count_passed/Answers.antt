use Rattle.std.proofs.Common.{rules}
use Rattle.std.proofs.lemmas.List.Sorted.{IsPartitionPoint-from_clause}
use Rattle.tq_base.specs.SortInputs.{state_of}
use Rattle.tq_check.specs.Covers.{is_passed}
use Rattle.tq_check.proofs.OrphanLemmas.{partitioned}
use Rattle.tq_check.proofs.orphans.count_passed.Goals as goal

pub returns-clause-point : goal.returns-clause-point
returns-clause-point c =
    let s = state_of c.args.sort_input.now in
    let key = c.args.key.now in
    let covers = c.args.covers.now in
    IsPartitionPoint-from_clause (is_passed s key) covers c.partition_point.result c.partition_point.ensures.partitioned (partitioned s key covers c.requires.covers c.requires.key) (λ a r q k. search rules)
