use Rattle.std.proofs.Common.{◌≡◌, ◌∙◌, FitsSigned, rules, subst, sym, true, w64}
use Rattle.std.specs.Prelude.{◌≤ℤ◌, ℤ, T, int_le}
use Rattle.std.specs.Int.Signed.{le_z_yes}
use Rattle.std.proofs.lemmas.Int.{to_z-of_z}
use Rattle.tq_exec.proofs.KeyLemmas.{has_first, has_no_others, has_second}
use Rattle.tq_exec.proofs.key_ranges.united.Goals as goal

pub returns-then-other-one-clause-first : goal.returns-then-other-one-clause-first
returns-then-other-one-clause-first c = has_first c.args.one c.args.other c.hull.result c.hull.ensures.low c.hull.ensures.high

pub returns-then-other-one-clause-second : goal.returns-then-other-one-clause-second
returns-then-other-one-clause-second c = has_second c.args.one c.args.other c.hull.result c.hull.ensures.low c.hull.ensures.high

at_most : (a b : ℤ) → int_le a b ≡ true → a ≤ℤ b
at_most a b is = le_z_yes (subst (λ x. T x) (sym is) tt)

pub returns-then-other-one-clause-just : goal.returns-then-other-one-clause-just
returns-then-other-one-clause-just c =
    let one_low : FitsSigned w64 c.args.one.low = search rules in
    let one_high : FitsSigned w64 c.args.one.high = search rules in
    let other_low : FitsSigned w64 c.args.other.low = search rules in
    let other_high : FitsSigned w64 c.args.other.high = search rules in
    has_no_others c.args.one c.args.other c.hull.result c.hull.ensures.low c.hull.ensures.high
    (at_most c.args.one.low c.args.other.high (sym (λ i. int_le (to_z-of_z w64 c.args.one.low one_low i) (to_z-of_z w64 c.args.other.high other_high i)) ∙ c.if-one-other.true))
    (at_most c.args.other.low c.args.one.high (sym (λ i. int_le (to_z-of_z w64 c.args.other.low other_low i) (to_z-of_z w64 c.args.one.high one_high i)) ∙ c.if-other-one.true))
