use Rattle.std.proofs.Common.{◌≡◌, ◌∙◌, ap, length, rules, sym}
use Rattle.tq_base.specs.Parts.{chosen_column, column_cells, periods_of}
use Rattle.tq_base.specs.Relations.{column_of}
use Rattle.tq_base.specs.RowLists.{RowList}
use Rattle.tq_base.proofs.ColumnLemmas.{columned}
use Rattle.tq_base.proofs.RelationLemmas.{length-rows_by_number}
use Rattle.tq_base.proofs.relation.Relation.column.Goals as goal

pub returns : goal.returns
returns c =
    let r = c.self.inside in
    let periods = periods_of r.parts.items r.periods in
    let len : c.len.result ≡ length periods =
    c.len.ensures.len ∙ ap (λ (v : RowList). length v.items) (sym c.self.view_is) ∙ length-rows_by_number r.parts.items r.columns.items 0 periods in
    let place : c.unwrap_or-place.result ≡ chosen_column r.columns.items c.args.column = search rules in
    c.of.ensures
    ∙ ap (λ parts. column_cells parts c.unwrap_or-place.result c.len.result) c.as_slice.ensures.value
    ∙ ap (λ at. column_cells r.parts.items at c.len.result) place
    ∙ columned r.parts.items r.columns.items c.args.column c.len.result periods len
    ∙ ap (λ (v : RowList). column_of v.items c.args.column) c.self.view_is
