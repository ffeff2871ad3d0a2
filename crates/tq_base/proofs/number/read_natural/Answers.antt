use Rattle.std.proofs.Common.{◌∙◌, sym, arith}
use Rattle.tq_base.proofs.NumberLemmas.{exceeds}
use Rattle.tq_base.proofs.number.read_natural.Goals as goal

pub returns-in_default : goal.returns-in_default
returns-in_default c =
    let digit = c.if-not-is_ascii_digit.ensures.cases in
    sym (c.digits.invariant.rest ∙ exceeds c.args.limit c.digits.value c.args.bytes.now c.digits.byte-index c.digits-test.true (omega (arith, digit)) (omega (arith, digit)) (omega (arith, digit, c.in_default.ensures, c.ranges.limit.fits)))

pub returns-in_default-checked_add : goal.returns-in_default-checked_add
returns-in_default-checked_add c =
    let digit = c.if-not-is_ascii_digit.ensures.cases in
    sym (c.digits.invariant.rest ∙ exceeds c.args.limit c.digits.value c.args.bytes.now c.digits.byte-index c.digits-test.true (omega (arith, digit)) (omega (arith, digit)) (omega (arith, digit, c.in-Some.ensures, c.from.ensures, c.in_default-checked_add.ensures, c.ranges.limit.fits)))

pub returns-then-next-limit : goal.returns-then-next-limit
returns-then-next-limit c =
    let digit = c.if-not-is_ascii_digit.ensures.cases in
    sym (c.digits.invariant.rest ∙ exceeds c.args.limit c.digits.value c.args.bytes.now c.digits.byte-index c.digits-test.true (omega (arith, digit)) (omega (arith, digit)) (omega (arith, digit, c.in-Some.ensures, c.from.ensures, c.in-Some-checked_add.ensures, c.if-next-limit.true)))
