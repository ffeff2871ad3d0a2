use Rattle.std.proofs.Common.{◌∙◌, ◌∷◌, [], List, ℕ, ap}
use Rattle.tq_import.proofs.converting.begin_fields.Goals as goal

pub returns-then-numbered : goal.returns-then-numbered
returns-then-numbered c =
    let h = c.in_ok-push_field.ensures [] (c.clear.ensures.fields, c.clear.ensures.partial) in
    rw c.if-numbered.true (h.0 ∙ ap (λ (t : List ℕ). t ∷ []) (c.as_bytes.ensures.value ∙ c.format.ensures.text), h.1)
