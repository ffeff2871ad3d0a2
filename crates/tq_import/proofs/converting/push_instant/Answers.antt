use Rattle.std.proofs.Common.{◌∙◌, ◌++◌, ◌∷◌, [], List, ℕ, ap}
use Rattle.tq_import.proofs.converting.push_instant.Goals as goal

pub returns : goal.returns
returns c before has =
    let h = c.in_ok-push_field.ensures before has in
    (h.0 ∙ ap (λ (t : List ℕ). before ++ t ∷ []) c.put_instant-len.ensures.text, h.1)
