use Rattle.std.proofs.Common.{◌<◌, ◌∙◌, ap, length, map}
use Rattle.std.specs.Prelude.{All}
use Rattle.std.proofs.lemmas.Result.{IfOk-weaker}
use Rattle.tq_base.specs.Keys.{no_row}
use Rattle.tq_base.specs.Relations.{row_at}
use Rattle.tq_base.specs.RowLists.{RowList}
use Rattle.tq_exec.proofs.PartitionPartLemmas.{at_places, places_within}
use Rattle.tq_exec.proofs.partition.rows_in.Goals as goal

pub take_rows-requires : goal.take_rows-requires
take_rows-requires c =
    let items = c.args.rows.now.items in
    let numbers = c.in_ok-numbers.numbers.items in
    let within : All (λ k. k < length items) numbers = places_within c.args.number c.args.ids.now numbers (length items) c.in_ok-numbers.ensures c.requires in
    rw (c.deref.ensures.value, c.in_ok-of.ensures) within

pub returns : goal.returns
returns c partition ids =
    let items = c.args.rows.now.items in
    let numbers = c.in_ok-numbers.numbers.items in
    IfOk-weaker c.take_rows.result _ _
    (λ relation is.
    is
    ∙ ap (λ (v : RowList). map (row_at v.items) c.deref.result.now) c.in_ok-of.ensures
    ∙ ap (map (row_at items)) (c.deref.ensures.value ∙ c.in_ok-numbers.ensures)
    ∙ at_places partition c.args.number c.args.ids.now items no_row ids)
    c.take_rows.ensures.rows
