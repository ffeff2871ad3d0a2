use Rattle.std.proofs.Common.{◌∙◌, ap}
use Rattle.tq_table.specs.Groups.{row_periods_in}
use Rattle.tq_table.proofs.RowPeriodLists.{no_lines}
use Rattle.tq_table.proofs.row_period_list.RowPeriodList.with_capacity.Goals as goal

pub returns : goal.returns
returns c = ap (λ l. row_periods_in l c.in_ok-with_capacity-2.field-0.items) c.in_ok-with_capacity.ensures.items ∙ no_lines c.in_ok-with_capacity-2.field-0.items
