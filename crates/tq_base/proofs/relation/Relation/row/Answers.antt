use Rattle.std.proofs.Common.{◌≡◌, ◌∙◌, ◌<◌, ap, get_or, length, sym, arith}
use Rattle.tq_base.specs.Keys.{no_row}
use Rattle.tq_base.specs.Parts.{cells, periods_of, rows_at}
use Rattle.tq_base.specs.RowLists.{RowList}
use Rattle.tq_base.proofs.RelationLemmas.{length-rows_by_number, values-rows_by_number}
use Rattle.tq_base.proofs.relation.Relation.row.Goals as goal

pub returns-then-row-len : goal.returns-then-row-len
returns-then-row-len c =
    let r = c.self.inside in
    let periods = periods_of r.parts.items r.periods in
    let len : length c.args.self.now.items ≡ length periods =
    ap (λ (v : RowList). length v.items) (sym c.self.view_is) ∙ length-rows_by_number r.parts.items r.columns.items 0 periods in
    let inside : c.args.row < length periods = omega (arith, len, c.if-row-len.true, c.len.ensures.len) in
    c.of.ensures
    ∙ ap (λ parts. cells (rows_at parts c.args.row) c.as_slice-then-row-len.result.now) c.as_slice.ensures.value
    ∙ ap (cells (rows_at r.parts.items c.args.row)) c.as_slice-then-row-len.ensures.value
    ∙ sym (values-rows_by_number r.parts.items r.columns.items periods c.args.row no_row inside)
    ∙ ap (λ (v : RowList). (get_or v.items c.args.row no_row).values) c.self.view_is
