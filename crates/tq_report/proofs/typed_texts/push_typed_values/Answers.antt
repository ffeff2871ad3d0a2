use Rattle.std.proofs.Common.{◌∙◌, ◌<◌, List, ℕ, [], ◌∷◌, ◌++◌, ap, append_assoc, arith, get_or, length, pos, take}
use Rattle.std.specs.List.{flat_map}
use Rattle.tq_base.specs.Contents.{Int}
use Rattle.tq_base.specs.Values.{value_ref}
use Rattle.tq_base.specs.declared.value.Value.{Value}
use Rattle.tq_draw.proofs.Steps.{items_step}
use Rattle.tq_report.specs.Texts.{value_in}
use Rattle.tq_report.specs.declared.format.Format.TheVariants.{Csv}
use Rattle.tq_report.proofs.typed_texts.push_typed_values.Goals as goal

pub places-preserved : goal.places-preserved
places-preserved c =
    let row = c.args.row.now in
    let at = c.places.place in
    let text = c.args.text.now.items in
    let zero : Value = Int (pos 0) in
    let field = λ (value : Value). 44 ∷ value_in Csv 0 value in
    let this = get_or row at zero in
    let before = text ++ flat_map field (take at row) in
    let within : at < length row = omega (arith, c.places-test.true, c.len-place-end.ensures) in
    c.in_ok-push_value.ensures
    ∙ ap (λ (l : List ℕ). l ++ value_in Csv 0 (value_ref c.as_ref.result)) c.in_ok-push.ensures.items
    ∙ ap (λ (v : Value). (c.places.text.items ++ 44 ∷ []) ++ value_in Csv 0 v) (c.as_ref.ensures ∙ c.value.ensures)
    ∙ ap (λ (l : List ℕ). (l ++ 44 ∷ []) ++ value_in Csv 0 this) c.places.invariant
    ∙ append_assoc before (44 ∷ []) (value_in Csv 0 this)
    ∙ items_step field text row at zero within
