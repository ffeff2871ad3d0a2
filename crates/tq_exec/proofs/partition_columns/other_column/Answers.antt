use Rattle.std.proofs.Common.{◌≡◌, ◌∙◌, sym, ap}
use Rattle.tq_base.specs.RowValues.{value_at}
use Rattle.tq_condition.specs.declared.condition.Operand.{Operand}
use Rattle.tq_condition.specs.Conditions.{operand_value}
use Rattle.tq_exec.proofs.ColumnLemmas.{in_equal}
use Rattle.tq_exec.proofs.partition_columns.other_column.Goals as goal

pub returns-then-one-place : goal.returns-then-one-place
returns-then-one-place c =
    let i = c.in-Column-Column in
    in_equal c.own_column.result c.args.source.now (λ row. operand_value c.args.left.now row ≡ operand_value c.args.right.now row) i.other c.args.place
    (λ row same. sym (ap (λ (o : Operand). operand_value o row) i.is-1) ∙ sym same ∙ ap (λ (o : Operand). operand_value o row) i.is-0 ∙ ap (value_at row) c.if-one-place.true)
    c.own_column.ensures

pub returns-then-other-place : goal.returns-then-other-place
returns-then-other-place c =
    let i = c.in-Column-Column in
    in_equal c.own_column-then-other-place.result c.args.source.now (λ row. operand_value c.args.left.now row ≡ operand_value c.args.right.now row) i.one c.args.place
    (λ row same. sym (ap (λ (o : Operand). operand_value o row) i.is-0) ∙ same ∙ ap (λ (o : Operand). operand_value o row) i.is-1 ∙ ap (value_at row) c.if-other-place.true)
    c.own_column-then-other-place.ensures
