use Rattle.std.proofs.Common.{◌≡◌, ◌∙◌, ap, arith, length, sym}
use Rattle.std.specs.Ordering.{eq_by_cmp}
use Rattle.tq_base.specs.Keys.{no_row}
use Rattle.tq_base.specs.Relations.{values_at_number}
use Rattle.tq_base.specs.RowValues.{value_at}
use Rattle.tq_base.specs.ValueOrder.{value_cmp}
use Rattle.tq_base.specs.declared.value.Value.{Value}
use Rattle.tq_store.proofs.LogLemmas.{all_same, one_other, other_length}
use Rattle.tq_store.proofs.log.has_values.Goals as goal

pub returns-then-width-values : goal.returns-then-width-values
returns-then-width-values c =
    let values = values_at_number c.args.rows.now.items c.args.row in
    let wide : length values ≡ c.args.rows.now.width = c.width.ensures.rows c.args.row no_row c.requires.row in
    sym (other_length values c.args.values.now (λ same. c.if-width-values.true (c.width.ensures.width ∙ sym wide ∙ same)))

pub returns-then-not-has_value : goal.returns-then-not-has_value
returns-then-not-has_value c =
    let values = values_at_number c.args.rows.now.items c.args.row in
    let wide : length values ≡ c.args.rows.now.width = c.width.ensures.rows c.args.row no_row c.requires.row in
    let value = c.index-values-column.result in
    sym (one_other values c.args.values.now c.columns.column value (wide ∙ sym c.width.ensures.width ∙ c.if-width-values.false) c.columns-test.true
    (ap (λ (v : Value). eq_by_cmp value_cmp (value_at values c.columns.column) v) (sym c.index-values-column.is) ∙ sym c.has_value.ensures ∙ c.if-not-has_value.true))

pub returns : goal.returns
returns c =
    let values = values_at_number c.args.rows.now.items c.args.row in
    let wide : length values ≡ c.args.rows.now.width = c.width.ensures.rows c.args.row no_row c.requires.row in
    sym (all_same values c.args.values.now (wide ∙ sym c.width.ensures.width ∙ c.if-width-values.false)
    (λ k d less. c.columns.invariant k d (omega (arith, less, c.columns-test.false))))
