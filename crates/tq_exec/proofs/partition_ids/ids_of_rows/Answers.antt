use Rattle.std.proofs.Common.{◌∙◌, ap, arith, map}
use Rattle.std.proofs.lemmas.List.{take_all}
use Rattle.std.proofs.lemmas.Result.{IfOk-weaker}
use Rattle.tq_base.specs.declared.fragment.Fragment.{Fragment}
use Rattle.tq_base.specs.RowValues.{value_at}
use Rattle.tq_exec.specs.Partitions.{partition_of}
use Rattle.tq_exec.proofs.ChunkLemmas.{chunks_are}
use Rattle.tq_exec.proofs.partition_ids.ids_of_rows.Goals as goal

pub returns-then-len-le-CHUNK_ROWS : goal.returns-then-len-le-CHUNK_ROWS
returns-then-len-le-CHUNK_ROWS g c =
    let rows = c.args.rows.now.items in
    let partition = λ (row : Fragment). partition_of c.args.cuts.now (value_at row.values c.args.column) in
    IfOk-weaker c.ids_between.result _ _ (λ ids is. is ∙ ap (map partition) (take_all c.len-len.result rows (omega (arith, c.len-len.ensures.len)))) c.ids_between.ensures

pub returns : goal.returns
returns g c =
    IfOk-weaker c.chained_chunks.result _ _ (λ ids is. is ∙ chunks_are c.args.cuts.now c.args.column c.args.rows.now.items c.in_ok-chunks.chunks.items c.in_ok-chunks.ensures) c.chained_chunks.ensures
