use Rattle.std.proofs.Common.{◌∙◌, ◌++◌, ◌∷◌, []}
use Rattle.tq_import.proofs.converting.push_field.Goals as goal

pub returns : goal.returns
returns c before h = (c.in_ok-push_field.ensures.fields ∙ (λ i. h.0 i ++ (h.1 i ++ c.args.field.now) ∷ []), c.in_ok-push_field.ensures.partial)
