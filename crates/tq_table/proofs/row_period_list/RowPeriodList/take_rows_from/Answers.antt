use Rattle.std.proofs.Common.{◌∙◌, sym}
use Rattle.tq_table.proofs.RowPeriodLists.{numbers_of, periods_of}
use Rattle.tq_table.proofs.row_period_list.RowPeriodList.take_rows_from.Goals as goal

pub returns-clause-rows : goal.returns-clause-rows
returns-clause-rows c =
    let rows = c.self.inside.rows.items in
    let periods = c.self.inside.periods.items in
    let lines = c.args.self in
    c.take_with_periods.ensures.rows lines
    (rw c.self.view_is at (numbers_of rows periods c.self.invariant) ∙ sym c.deref.ensures.value, rw c.self.view_is at (periods_of rows periods c.self.invariant))
    c.requires
