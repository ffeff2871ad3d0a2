use Rattle.std.proofs.Common.{◌∙◌, sym}
use Rattle.std.proofs.lemmas.Result.{IfOk-weaker}
use Rattle.tq_event.specs.Tables.{lists_of}
use Rattle.tq_exec.specs.Answers.{in_tables}
use Rattle.tq_exec.specs.Partitions.{partition_of}
use Rattle.tq_exec.proofs.PartitionPartLemmas.{partition_held, whole_held}
use Rattle.tq_exec.proofs.partition.PartitionSnapshot.rows.Goals as goal

pub returns-in-None : goal.returns-in-None
returns-in-None c =
    let partition = c.args.self.now in
    IfOk-weaker c.rows.result _ _
    (λ relation has. whole_held (partition_of partition.cuts.now) partition.number partition.columns.now (in_tables (lists_of partition.all.tables.now)) c.args.table c.args.window.now c.args.keys.now relation.items (sym c.column_in.ensures ∙ c.in-None.is) has)
    c.rows.ensures

pub returns-in-Some : goal.returns-in-Some
returns-in-Some c =
    let partition = c.args.self.now in
    IfOk-weaker c.partition_rows.result _ _
    (λ relation is. partition_held partition.cuts.now partition.number c.in-Some.column partition.columns.now (lists_of partition.all.tables.now) c.args.table c.args.window.now c.args.keys.now relation.items (sym c.column_in.ensures ∙ c.in-Some.is) is)
    c.partition_rows.ensures
