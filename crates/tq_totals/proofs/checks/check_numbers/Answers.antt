use Rattle.std.proofs.Common.{◌≡◌, ◌∙◌, ◌<◌, ◌≤◌, ◌+◌, ◌-◌, ◌⊎◌, inl, inr, List, false, ap, arith, get_or, subst, sym}
use Rattle.std.proofs.lemmas.Bool.{cases_lt}
use Rattle.std.specs.List.{find}
use Rattle.tq_base.specs.Keys.{no_row}
use Rattle.tq_base.specs.declared.value.Value.{Value}
use Rattle.tq_totals.specs.Totals.{has_text, has_texts}
use Rattle.tq_totals.proofs.CheckLemmas.{any_found, first_row_is, none_found, no_position}
use Rattle.tq_totals.proofs.checks.check_numbers.Goals as goal

pub returns-in-Some-clause-fault : goal.returns-in-Some-clause-fault
returns-in-Some-clause-fault c by ended =
    let rows = c.args.rows.now in
    let summed = c.args.summed.now in
    let at = c.rows.row in
    let found = ap (λ (values : List Value). find (has_text values) summed) (sym c.row.ensures) ∙ sym c.text_column.ensures ∙ c.in-Some.is in (
      ended,
      first_row_is (has_texts summed) rows at no_row (omega (arith, c.rows-test.true, c.len-row-end.ensures)) c.rows.invariant
          (any_found (has_text (get_or rows at no_row).values) summed c.in-Some.column found),
      ap (λ n. find (has_text (get_or rows n no_row).values) summed) (let e : at + 1 - 1 ≡ at = omega arith in e) ∙ found,
    )

pub rows-preserved : goal.rows-preserved
rows-preserved c k less = by (cases_lt k c.rows.row)
  where
    by : (k < c.rows.row) ⊎ (c.rows.row ≤ k) → has_texts c.args.summed.now (get_or c.args.rows.now k no_row) ≡ false
    by (inl before) = c.rows.invariant k before
    by (inr last) =
        let here : c.rows.row ≡ k = omega (arith, less, last) in
        let found = ap (λ (values : List Value). find (has_text values) c.args.summed.now) (sym c.row.ensures) ∙ sym c.text_column.ensures ∙ c.in_default.is in
        subst (λ n. has_texts c.args.summed.now (get_or c.args.rows.now n no_row) ≡ false) here
        (none_found (has_text (get_or c.args.rows.now c.rows.row no_row).values) c.args.summed.now found)

pub returns-clause-ok : goal.returns-clause-ok
returns-clause-ok c =
    no_position (has_texts c.args.summed.now) c.args.rows.now no_row (λ k less. c.rows.invariant k (omega (arith, less, c.rows-test.false, c.len-row-end.ensures)))
