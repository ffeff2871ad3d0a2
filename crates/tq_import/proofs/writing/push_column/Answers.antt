use Rattle.std.proofs.Common.{◌≡◌, ◌∙◌, ◌++◌, ◌∷◌, [], List, ℕ, ap}
use Rattle.tq_import.specs.Imports.{column_field}
use Rattle.tq_import.proofs.writing.push_column.Goals as goal

pub returns : goal.returns
returns c before has =
    let h = c.in_ok-push_field.ensures before has in
    let name : c.extend_from_slice.new.self.items ≡ c.args.column.now.name =
    c.in_ok-extend_from_slice.ensures.items ∙ ap (λ (l : List ℕ). l ++ c.bytes.result.now) c.clear.ensures.items ∙ c.bytes.ensures.value in
    let text : c.deref.result.now ≡ column_field c.args.column.now =
    c.deref.ensures.value ∙ c.in_ok-extend_from_slice-2.ensures.items ∙ (λ i. name i ++ c.kind_word.ensures i) in
    (h.0 ∙ ap (λ (t : List ℕ). before ++ t ∷ []) text, h.1)
