use Rattle.std.proofs.Common.{◌==◌, ◌∙◌, ap, filter, length, sym}
use Rattle.std.proofs.lemmas.List.{length-map}
use Rattle.std.proofs.lemmas.Result.{IfOk-weaker}
use Rattle.tq_base.specs.declared.fragment.Fragment.{Fragment}
use Rattle.tq_base.specs.RowLists.{RowList}
use Rattle.tq_base.specs.RowValues.{value_at}
use Rattle.tq_exec.specs.Partitions.{partition_of}
use Rattle.tq_exec.proofs.PartitionPartLemmas.{no_table, table_rows, ids_are}
use Rattle.tq_exec.proofs.partition.partition_rows.Goals as goal

pub rows_in-requires : goal.rows_in-requires
rows_in-requires c =
    let partition = c.args.partition.now in
    let l = c.in-Some.ensures.lookup in
    let id_of_row = λ (row : Fragment). partition_of partition.cuts.now (value_at row.values c.args.column) in
    ap length (c.deref.ensures.value ∙ ids_are partition.cuts.now partition.columns.now partition.all.tables.now partition.ids.now c.args.table c.args.column c.in-Some.rows.now c.index-partition-table.result partition.are c.requires l.3.0 l.3.1)
    ∙ length-map c.in-Some.rows.now.items id_of_row

pub returns-in-Some : goal.returns-in-Some
returns-in-Some c =
    let partition = c.args.partition.now in
    let l = c.in-Some.ensures.lookup in
    let id_of_row = λ (row : Fragment). partition_of partition.cuts.now (value_at row.values c.args.column) in
    let ids = c.deref.ensures.value ∙ ids_are partition.cuts.now partition.columns.now partition.all.tables.now partition.ids.now c.args.table c.args.column c.in-Some.rows.now c.index-partition-table.result partition.are c.requires l.3.0 l.3.1 in
    IfOk-weaker c.rows_in.result _ _
    (λ relation is. is ∙ ap (filter (λ (row : Fragment). id_of_row row == partition.number)) (sym (table_rows partition.all.tables.now c.args.table c.in-Some.rows.now l.3.0 l.3.1)))
    (c.rows_in.ensures id_of_row ids)

pub returns-in-None : goal.returns-in-None
returns-in-None c =
    let partition = c.args.partition.now in
    let id_of_row = λ (row : Fragment). partition_of partition.cuts.now (value_at row.values c.args.column) in
    IfOk-weaker c.owned.result _ _
    (λ relation is. ap (λ (r : RowList). r.items) is ∙ c.new.ensures.rows ∙ ap (filter (λ (row : Fragment). id_of_row row == partition.number)) (sym (no_table partition.all.tables.now c.args.table c.in-None.ensures.lookup.3)))
    c.owned.ensures
