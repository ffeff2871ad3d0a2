use Rattle.std.proofs.Common.{◌≡◌, FitsSigned, w64, rules, ◌∙◌, arith}
use Rattle.std.specs.Int.{int_max, int_min}
use Rattle.std.proofs.lemmas.Int.{ints, to_z-of_z}
use Rattle.tq_base.proofs.key_range.KeyRange.common.Goals as goal

pub returns-clause-valid : goal.returns-clause-valid
returns-clause-valid c =
    let self_low : FitsSigned w64 c.args.self.low = search rules in
    let self_high : FitsSigned w64 c.args.self.high = search rules in
    let other_low : FitsSigned w64 c.args.other.low = search rules in
    let other_high : FitsSigned w64 c.args.other.high = search rules in
    let low_fits : FitsSigned w64 c.max.result = search rules in
    let high_fits : FitsSigned w64 c.min.result = search rules in
    let low : c.max.result ≡ int_max c.args.self.low c.args.other.low =
    c.max.ensures.value ∙ (λ i. int_max (to_z-of_z w64 c.args.self.low self_low i) (to_z-of_z w64 c.args.other.low other_low i)) in
    let high : c.min.result ≡ int_min c.args.self.high c.args.other.high =
    c.min.ensures.value ∙ (λ i. int_min (to_z-of_z w64 c.args.self.high self_high i) (to_z-of_z w64 c.args.other.high other_high i)) in (
      λ is. let le = c.new.ensures.valid.0 is in omega (arith, ints, le, low, high, low_fits, high_fits),
      λ le. c.new.ensures.valid.1 (omega (arith, ints, le, low, high, low_fits, high_fits)),
    )
