use Rattle.std.proofs.Common.{◌≡◌, ◌∙◌, ◌-◌, [], ℕ, ap, false, length, refl, sym, true}
use Rattle.std.specs.Option.{option_and_then}
use Rattle.tq_import.specs.Amounts.{are_parts, has_parts, with_zeros}
use Rattle.tq_import.specs.Digits.{natural_after}
use Rattle.tq_import.proofs.DigitLemmas.{size_from, with_rest}
use Rattle.tq_import.proofs.amounts.read_size.Goals as goal

pub returns-then-not-are_parts-clause-value : goal.returns-then-not-are_parts-clause-value
returns-then-not-are_parts-clause-value c =
    let split = c.split_at_point.ensures in
    let parts : has_parts c.args.format.point c.args.places c.args.number.now ≡ false =
    (λ i. are_parts c.args.places (length c.args.number.now) (sym split.whole i) (sym split.fraction i)) ∙ sym c.are_parts.ensures ∙ c.if-not-are_parts.true in
    rw parts refl

pub returns-in_err-size-clause-value : goal.returns-in_err-size-clause-value
returns-in_err-size-clause-value c =
    let split = c.split_at_point.ensures in
    let fraction = c.split_at_point.result.1.now in
    let parts : has_parts c.args.format.point c.args.places c.args.number.now ≡ true =
    (λ i. are_parts c.args.places (length c.args.number.now) (sym split.whole i) (sym split.fraction i)) ∙ sym c.are_parts.ensures ∙ c.if-not-are_parts.false in
    c.from_residual.ensures
    ∙ sym (size_from c.args.limit c.args.format c.args.places c.args.number.now _ fraction split.whole split.fraction parts
    ∙ ap (option_and_then (with_rest c.args.limit (c.args.places - length fraction) fraction)) (sym c.in_err-size.ensures.value))

pub returns-in_err-units-clause-value : goal.returns-in_err-units-clause-value
returns-in_err-units-clause-value c =
    let split = c.split_at_point.ensures in
    let fraction = c.split_at_point.result.1.now in
    let parts : has_parts c.args.format.point c.args.places c.args.number.now ≡ true =
    (λ i. are_parts c.args.places (length c.args.number.now) (sym split.whole i) (sym split.fraction i)) ∙ sym c.are_parts.ensures ∙ c.if-not-are_parts.false in
    c.from_residual-in_err-units.ensures
    ∙ sym (size_from c.args.limit c.args.format c.args.places c.args.number.now _ fraction split.whole split.fraction parts
    ∙ ap (option_and_then (with_rest c.args.limit (c.args.places - length fraction) fraction)) (sym c.in_ok-size.ensures.value)
    ∙ ap (option_and_then (λ (m : ℕ). natural_after c.args.limit m (with_zeros (c.args.places - length fraction) []))) (sym c.in_err-units.ensures.value))

pub returns-clause-value : goal.returns-clause-value
returns-clause-value c =
    let split = c.split_at_point.ensures in
    let fraction = c.split_at_point.result.1.now in
    let parts : has_parts c.args.format.point c.args.places c.args.number.now ≡ true =
    (λ i. are_parts c.args.places (length c.args.number.now) (sym split.whole i) (sym split.fraction i)) ∙ sym c.are_parts.ensures ∙ c.if-not-are_parts.false in
    c.add_zeros.ensures.value
    ∙ ap (λ (n : ℕ). natural_after c.args.limit c.in_ok-units.units (with_zeros n [])) c.saturating_sub.ensures
    ∙ sym (size_from c.args.limit c.args.format c.args.places c.args.number.now _ fraction split.whole split.fraction parts
    ∙ ap (option_and_then (with_rest c.args.limit (c.args.places - length fraction) fraction)) (sym c.in_ok-size.ensures.value)
    ∙ ap (option_and_then (λ (m : ℕ). natural_after c.args.limit m (with_zeros (c.args.places - length fraction) []))) (sym c.in_ok-units.ensures.value))
