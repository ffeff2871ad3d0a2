use Rattle.std.proofs.Common.{◌∙◌, ap, sym}
use Rattle.std.specs.Option.{option_copied}
use Rattle.tq_base.specs.RowValues.{value_at}
use Rattle.tq_base.specs.Parts.{value_there}
use Rattle.tq_base.proofs.ColumnLemmas.{read_past, read_there}
use Rattle.tq_base.proofs.column_view.ColumnView.value.Goals as goal

pub returns-then-row-self : goal.returns-then-row-self
returns-then-row-self c =
    let v = c.self.inside in
    c.self.invariant.0
    ∙ sym (read_past v.rows v.values.now v.step v.place (option_copied v.numbers) v.len c.args.row c.if-row-self.true)
    ∙ ap (λ l. value_at l c.args.row) c.self.view_is

pub returns : goal.returns
returns c =
    let v = c.self.inside in
    c.value_there.ensures
    ∙ ap (value_there v.rows v.values.now v.step v.place) c.number_in.ensures
    ∙ sym (read_there v.rows v.values.now v.step v.place (option_copied v.numbers) v.len c.args.row c.if-row-self.false)
    ∙ ap (λ l. value_at l c.args.row) c.self.view_is
