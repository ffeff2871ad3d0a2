use Rattle.std.proofs.Common.{◌∙◌, ◌+◌, ◌∷◌, [], ap, arith, drop, get_or, sym}
use Rattle.std.proofs.lemmas.List.{drop_all, drop_more}
use Rattle.tq_import.specs.Digits.{natural_after}
use Rattle.tq_import.proofs.DigitLemmas.{more_none, more_some, no_digits}
use Rattle.tq_import.proofs.digits.add_digits.Goals as goal

pub digits-preserved : goal.digits-preserved
digits-preserved c =
    let i = c.digits.invariant in
    let ds = c.args.digits.now in
    let at = c.digits.byte-index in
    record {
      small = c.in_ok-sum.ensures.small;
      rest = i.rest
          ∙ ap (natural_after c.args.limit c.digits.sum) (drop_more ds at 0 c.digits-test.true)
          ∙ more_some c.args.limit c.digits.sum c.in_ok-sum.sum (get_or ds at 0 ∷ []) (drop (at + 1) ds) c.in_ok-sum.ensures.value;
    }

pub returns-in_err-sum-clause-value : goal.returns-in_err-sum-clause-value
returns-in_err-sum-clause-value c =
    let ds = c.args.digits.now in
    let at = c.digits.byte-index in
    c.from_residual.ensures
    ∙ sym (c.digits.invariant.rest
    ∙ ap (natural_after c.args.limit c.digits.sum) (drop_more ds at 0 c.digits-test.true)
    ∙ more_none c.args.limit c.digits.sum (get_or ds at 0 ∷ []) (drop (at + 1) ds) c.in_err-sum.ensures.value)

pub returns-clause-value : goal.returns-clause-value
returns-clause-value c =
    let i = c.digits.invariant in
    sym (i.rest
    ∙ ap (natural_after c.args.limit c.digits.sum) (drop_all c.digits.byte-index c.args.digits.now (omega (arith, c.digits-test.false)))
    ∙ no_digits c.args.limit c.digits.sum i.small)
