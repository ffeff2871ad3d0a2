use Rattle.std.proofs.Common.{◌≡◌, ◌∙◌, ◌<◌, List, ap, get_or, length, map, subst, sym}
use Rattle.std.specs.Prelude.{All}
use Rattle.std.proofs.lemmas.Result.{on_ok_weaker}
use Rattle.tq_base.specs.declared.fragment.Fragment.{Fragment}
use Rattle.tq_base.specs.Keys.{no_row}
use Rattle.tq_base.specs.Parts.{periods_of, rows_by_number}
use Rattle.tq_base.specs.Relations.{row_at}
use Rattle.tq_base.specs.RowLists.{RowList}
use Rattle.tq_base.proofs.RelationLemmas.{numbered_rows}
use Rattle.tq_base.proofs.relation.Relation.set_numbers.Goals as goal

pub returns-clause-rows : goal.returns-clause-rows
returns-clause-rows c =
    let r = c.self.inside in
    let periods = periods_of r.parts.items r.periods in
    let rows = rows_by_number r.parts.items r.columns.items 0 periods in
    let numbers = c.args.numbers.now in
    let new = c.renumber.new.parts.items in
    let view : c.args.self.now.items ≡ rows = ap (λ (v : RowList). v.items) (sym c.self.view_is) in
    let are : c.periods.result.now ≡ map (λ (row : Fragment). row.period) rows = c.periods.ensures ∙ ap (map (λ (row : Fragment). row.period)) view in
    let within : All (λ number. number < length rows) numbers = subst (λ (v : List Fragment). All (λ number. number < length v) numbers) view c.requires.within in
    on_ok_weaker c.renumber.result
    (λ same.
    ap (rows_by_number new r.columns.items 0) (c.in_ok-periods_at.ensures ∙ ap (λ ps. map (λ number. get_or ps number no_row.period) numbers) are)
    ∙ numbered_rows r.parts.items new r.columns.items periods numbers same within
    ∙ ap (λ v. map (row_at v) numbers) (sym view))
    c.renumber.ensures.rows
