use Rattle.std.proofs.Common.{◌∙◌, ◌++◌, ◌∷◌, [], ap}
use Rattle.tq_table.specs.Groups.{row_period_at, row_periods_in}
use Rattle.tq_table.proofs.RowPeriodLists.{lines_put}
use Rattle.tq_table.proofs.row_period_list.RowPeriodList.push.Goals as goal

pub returns : goal.returns
returns c =
    let rows = c.self.inside.rows.items in
    let periods = c.self.inside.periods.items in
    let row = c.args.row in
    let period = c.args.period in
    ap (λ l. row_periods_in l c.push.new.self.items) (c.push_reserved.ensures.items ∙ ap (λ l. l ++ row ∷ []) c.in_ok-reserve.ensures.items)
    ∙ ap (λ l. row_periods_in (rows ++ row ∷ []) l) c.in_ok-push.ensures.items
    ∙ lines_put rows periods row period c.self.invariant
    ∙ ap (λ l. l ++ row_period_at row period ∷ []) c.self.view_is
