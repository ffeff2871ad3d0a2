use Rattle.std.proofs.Common.{◌≡◌, ◌++◌, ◌∷◌, [], Some, sym, refl, subst, w64}
use Rattle.std.specs.Prelude.{ℤ}
use Rattle.std.specs.Fmt.{signed_decimal}
use Rattle.std.proofs.lemmas.Int.{to_z-of_z}
use Rattle.tq_import.specs.Amounts.{units_in}
use Rattle.tq_import.specs.Records.{HasFields}
use Rattle.tq_import.proofs.AmountLemmas.{units_fit}
use Rattle.tq_import.proofs.converting.push_converted.Goals as goal

pub returns-in_ok-push_number-in-Number-clause-ok :
    goal.returns-in_ok-push_number-in-Number-clause-ok
returns-in_ok-push_number-in-Number-clause-ok c before has =
    let units : units_in c.args.format c.in-Number.places c.args.field.now ≡ Some c.in-Some.units = sym c.in-Some.ensures in
    let fits = units_fit c.args.format c.in-Number.places c.args.field.now c.in-Some.units units in
    let held = subst (λ (z : ℤ). HasFields c.push_number.new.fields (before ++ signed_decimal z ∷ [])) (to_z-of_z w64 c.in-Some.units fits) (c.in_ok-push_number-in-Number.ensures before has) in
    (signed_decimal c.in-Some.units, rw (c.in-Number.is, units) refl, held)

pub returns-in_ok-push_field-in-Text-clause-ok : goal.returns-in_ok-push_field-in-Text-clause-ok
returns-in_ok-push_field-in-Text-clause-ok c before has =
    (c.args.field.now, rw c.in-Text.is c.in_default-check_text.ensures.ok, c.in_ok-push_field-in-Text.ensures before has)
