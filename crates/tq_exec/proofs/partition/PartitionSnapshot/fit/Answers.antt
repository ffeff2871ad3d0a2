use Rattle.std.proofs.lemmas.List.Elements.{All-filter}
use Rattle.tq_event.specs.Recorded.{HasTable}
use Rattle.tq_event.specs.Tables.{lists_of}
use Rattle.tq_exec.specs.Answers.{in_tables}
use Rattle.tq_exec.specs.Partitioning.{goes_to}
use Rattle.tq_exec.specs.Partitions.{columns_in, partition_of}
use Rattle.tq_exec.proofs.partition.PartitionSnapshot.fit.Goals as goal

pub returns : goal.returns
returns c =
    let partition = c.args.self.now in
    λ table t. All-filter (goes_to (partition_of partition.cuts.now) partition.number (columns_in partition.columns.now table)) (HasTable partition.all.catalogue.now table) (in_tables (lists_of partition.all.tables.now) table t) (c.fit.ensures table t)
