use Rattle.tq_condition.proofs.Ranging.{backwards}
use Rattle.tq_condition.proofs.key_range.compared_numbers.Goals as goal

pub returns-in-Literal-Column : goal.returns-in-Literal-Column
returns-in-Literal-Column c =
    backwards c.args.left.now c.args.right.now c.args.op c.reversed.result c.in-Literal-Column.value c.in-Literal-Column.column c.args.place c.range_for_value-in-Literal-Column.result
    c.in-Literal-Column.is-0 c.in-Literal-Column.is-1 c.if-column-place-2.true c.reversed.ensures c.range_for_value-in-Literal-Column.ensures
