use Rattle.std.proofs.Common.{◌∙◌, sym}
use Rattle.tq_base.proofs.ColumnLemmas.{value_past}
use Rattle.tq_base.proofs.column_view.value_there.Goals as goal

pub returns-then-number-rows : goal.returns-then-number-rows
returns-then-number-rows c =
    c.requires.zero ∙ sym (value_past c.args.rows c.args.values.now c.args.step c.args.place c.args.number c.if-number-rows.true)
