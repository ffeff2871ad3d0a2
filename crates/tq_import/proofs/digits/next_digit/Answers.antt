use Rattle.std.proofs.Common.{◌∙◌, arith}
use Rattle.tq_import.proofs.DigitLemmas.{one_digit, too_many}
use Rattle.tq_import.proofs.digits.next_digit.Goals as goal

pub returns-in_err-tens-clause-value : goal.returns-in_err-tens-clause-value
returns-in_err-tens-clause-value c =
    let digit = c.if-not-is_ascii_digit.ensures.cases in
    c.from_residual.ensures ∙ too_many c.args.limit c.args.number c.args.byte (omega (arith, digit)) (omega (arith, digit)) (omega (arith, digit, c.in_err-tens.ensures, c.ranges.limit.fits))

pub returns-in_err-next-clause-value : goal.returns-in_err-next-clause-value
returns-in_err-next-clause-value c =
    let digit = c.if-not-is_ascii_digit.ensures.cases in
    c.from_residual-in_err-next.ensures ∙ too_many c.args.limit c.args.number c.args.byte (omega (arith, digit)) (omega (arith, digit))
    (omega (arith, digit, c.in_ok-tens.ensures, c.from.ensures, c.in_err-next.ensures, c.ranges.limit.fits))

pub returns-then-next-limit-clause-value : goal.returns-then-next-limit-clause-value
returns-then-next-limit-clause-value c =
    let digit = c.if-not-is_ascii_digit.ensures.cases in
    too_many c.args.limit c.args.number c.args.byte (omega (arith, digit)) (omega (arith, digit))
    (omega (arith, digit, c.in_ok-tens.ensures, c.from.ensures, c.in_ok-next.ensures, c.if-next-limit.true))

pub returns-clause-value : goal.returns-clause-value
returns-clause-value c =
    let digit = c.if-not-is_ascii_digit.ensures.cases in
    one_digit c.args.limit c.args.number c.args.byte c.in_ok-next.next (omega (arith, digit)) (omega (arith, digit))
    (omega (arith, digit, c.in_ok-tens.ensures, c.from.ensures, c.in_ok-next.ensures)) (omega (arith, c.if-next-limit.false))
