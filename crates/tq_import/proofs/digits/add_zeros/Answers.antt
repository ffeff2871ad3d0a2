use Rattle.std.proofs.Common.{◌∙◌, ◌-◌, ◌∷◌, [], ap, arith, sym}
use Rattle.tq_import.specs.Amounts.{with_zeros}
use Rattle.tq_import.specs.Digits.{natural_after}
use Rattle.tq_import.proofs.AmountLemmas.{no_zeros}
use Rattle.tq_import.proofs.DigitLemmas.{more_none, more_some, no_digits, zero_first}
use Rattle.tq_import.proofs.digits.add_zeros.Goals as goal

pub zeros-preserved : goal.zeros-preserved
zeros-preserved c =
    let i = c.zeros.invariant in
    record {
      small = c.in_ok-sum.ensures.small;
      rest = i.rest
          ∙ ap (natural_after c.args.limit c.zeros.sum) (zero_first c.zeros.left (omega arith))
          ∙ more_some c.args.limit c.zeros.sum c.in_ok-sum.sum (48 ∷ []) (with_zeros (c.zeros.left - 1) []) c.in_ok-sum.ensures.value;
    }

pub returns-in_err-sum-clause-value : goal.returns-in_err-sum-clause-value
returns-in_err-sum-clause-value c =
    c.from_residual.ensures
    ∙ sym (c.zeros.invariant.rest
    ∙ ap (natural_after c.args.limit c.zeros.sum) (zero_first c.zeros.left (omega arith))
    ∙ more_none c.args.limit c.zeros.sum (48 ∷ []) (with_zeros (c.zeros.left - 1) []) c.in_err-sum.ensures.value)

pub returns-clause-value : goal.returns-clause-value
returns-clause-value c =
    let i = c.zeros.invariant in
    sym (i.rest ∙ ap (natural_after c.args.limit c.zeros.sum) (no_zeros c.zeros.left [] (omega arith)) ∙ no_digits c.args.limit c.zeros.sum i.small)
