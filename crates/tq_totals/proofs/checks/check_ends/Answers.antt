use Rattle.std.proofs.Common.{◌≡◌, ◌∙◌, ap, arith, get_or}
use Rattle.tq_base.specs.Keys.{no_row}
use Rattle.tq_base.specs.declared.period.Period.{Period}
use Rattle.tq_totals.specs.Totals.{is_open}
use Rattle.tq_totals.proofs.CheckLemmas.{first_row_is, no_position, not_open, opened}
use Rattle.tq_totals.proofs.checks.check_ends.Goals as goal

pub returns-then-number-eq-FOREVER-clause-fault : goal.returns-then-number-eq-FOREVER-clause-fault
returns-then-number-eq-FOREVER-clause-fault c by summed =
    let end : c.number.result ≡ (get_or c.args.rows.now c.rows.row no_row).period.end = c.number.ensures.value ∙ ap (λ (p : Period). p.end) (c.period.ensures no_row) in
    first_row_is is_open c.args.rows.now c.rows.row no_row (omega (arith, c.rows-test.true, c.len-row-end.ensures))
    (λ k less. not_open (get_or c.args.rows.now k no_row) (c.rows.invariant k less))
    (opened (get_or c.args.rows.now c.rows.row no_row) (omega (arith, end, c.if-number-eq-FOREVER.true)))

pub returns-clause-ok : goal.returns-clause-ok
returns-clause-ok c =
    no_position is_open c.args.rows.now no_row (λ k less. not_open (get_or c.args.rows.now k no_row) (c.rows.invariant k (omega (arith, less, c.rows-test.false, c.len-row-end.ensures))))
