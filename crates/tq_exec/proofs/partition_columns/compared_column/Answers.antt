use Rattle.std.proofs.Common.{◌≡◌}
use Rattle.std.specs.Prelude.{IsTrue}
use Rattle.tq_condition.specs.Conditions.{operand_value, passes}
use Rattle.tq_exec.proofs.ColumnLemmas.{equal_operands, of_whole}
use Rattle.tq_exec.proofs.partition_columns.compared_column.Goals as goal

pub returns-in-Is : goal.returns-in-Is
returns-in-Is c =
    let i = c.in-Is in
    of_whole c.other_column.result c.args.source.now (λ row. operand_value i.left row ≡ operand_value i.right row) (λ row. IsTrue (passes c.args.part.now row)) c.args.place
    (λ row passed. equal_operands c.args.part.now i.left i.right i.op i.is (c.is_equality.ensures c.if-is_equality.true) row passed) c.other_column.ensures
