use Rattle.std.proofs.Common.{◌∙◌, ◌++◌, ◌∷◌, [], List, ℕ, ap, w64}
use Rattle.std.specs.Prelude.{ℤ}
use Rattle.std.specs.Fmt.{signed_decimal}
use Rattle.std.proofs.lemmas.Int.{to_z-of_z}
use Rattle.tq_import.proofs.converting.push_number.Goals as goal

pub returns : goal.returns
returns c before has =
    let h = c.in_ok-push_field.ensures before has in (
      h.0
          ∙ ap (λ (t : List ℕ). before ++ t ∷ []) (c.as_bytes.ensures.value ∙ c.format.ensures.text)
          ∙ ap (λ (z : ℤ). before ++ signed_decimal z ∷ []) (to_z-of_z w64 c.args.number c.ranges.number),
      h.1,
    )
