use Rattle.std.proofs.Common.{◌≡◌, ◌∙◌, ◌<◌, ℕ, ap, get_or, length, map, subst, sym}
use Rattle.std.specs.Prelude.{All}
use Rattle.std.proofs.lemmas.Result.{on_ok_weaker}
use Rattle.tq_base.specs.declared.relation.RowPeriod.{RowPeriod}
use Rattle.tq_base.specs.Parts.{periods_of, rows_at, rows_by_number}
use Rattle.tq_base.specs.Relations.{row_period_of}
use Rattle.tq_base.specs.RowLists.{RowList}
use Rattle.tq_base.proofs.RelationLemmas.{taken_rows}
use Rattle.tq_base.proofs.relation.Relation.set_rows_and_periods.Goals as goal

pub returns-clause-rows : goal.returns-clause-rows
returns-clause-rows c row_periods are inside =
    let r = c.self.inside in
    let periods = periods_of r.parts.items r.periods in
    let places = map (λ (row_period : RowPeriod). row_period.row) row_periods in
    let new = c.renumber.new.parts.items in
    let within : All (λ (row_period : RowPeriod). row_period.row < length (rows_by_number r.parts.items r.columns.items 0 periods)) row_periods =
    subst (λ (v : RowList). All (λ (row_period : RowPeriod). row_period.row < length v.items) row_periods) (sym c.self.view_is) inside in
    on_ok_weaker c.renumber.result
    (λ same.
    ap (rows_by_number new r.columns.items 0) (sym are.1)
    ∙ taken_rows r.parts.items new r.columns.items periods row_periods
    (subst (λ l. (k : ℕ) → k < length l → rows_at new k ≡ rows_at r.parts.items (get_or l k 0)) (sym are.0) same)
    within
    ∙ ap (λ (v : RowList). map (row_period_of v.items) row_periods) c.self.view_is)
    c.renumber.ensures.rows
