use Rattle.std.proofs.Common.{rules, nat_le}
use Rattle.std.proofs.lemmas.List.Sorted.{IsPartitionedBy-leb, IsPartitionPoint-from_clause}
use Rattle.tq_mvbt.specs.declared.root.Root.{Root}
use Rattle.tq_mvbt.proofs.Roots.{find_at}
use Rattle.tq_mvbt.proofs.root.find_root.Goals as goal

pub overflow_sub-result : goal.overflow_sub-result
overflow_sub-result c =
    let roots = c.args.roots.now in
    let point = IsPartitionPoint-from_clause (λ (r : Root). nat_le r.from c.args.version) roots c.partition_point-after.result c.partition_point-after.ensures.partitioned
    (IsPartitionedBy-leb (λ (r : Root). r.from) roots c.args.version c.requires.ordered) (λ a r q k. search rules) in
    (find_at roots c.partition_point-after.result c.args.version (record { from = 0; node = 0; levels = 0 }) c.requires.some c.requires.first c.partition_point-after.ensures.bound point).0

pub returns : goal.returns
returns c =
    let roots = c.args.roots.now in
    let point = IsPartitionPoint-from_clause (λ (r : Root). nat_le r.from c.args.version) roots c.partition_point-after.result c.partition_point-after.ensures.partitioned
    (IsPartitionedBy-leb (λ (r : Root). r.from) roots c.args.version c.requires.ordered) (λ a r q k. search rules) in
    (find_at roots c.partition_point-after.result c.args.version (record { from = 0; node = 0; levels = 0 }) c.requires.some c.requires.first c.partition_point-after.ensures.bound point).1
