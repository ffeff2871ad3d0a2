use Rattle.std.proofs.Common.{◌≡◌, ◌∙◌, List, ℕ, [], ◌∷◌, ◌++◌, ap}
use Rattle.std.specs.List.{flat_map, range_with_len}
use Rattle.tq_base.specs.declared.value.Value.{Value}
use Rattle.tq_draw.specs.Labels.{label_of}
use Rattle.tq_draw.specs.Pictures.{value_label}
use Rattle.tq_draw.specs.Svg.{spaced_label}
use Rattle.tq_table.specs.Text.{value_field}
use Rattle.tq_draw.proofs.Steps.{flat_map_step, two_as_one}
use Rattle.tq_draw.proofs.svg.push_spaced_labels.Goals as goal

pub columns-preserved : goal.columns-preserved
columns-preserved c =
    let label_at = value_label c.args.row.now in
    let element = spaced_label c.args.row.now in
    let at = c.columns.column in
    let text = c.args.text.now.items in
    let before = text ++ flat_map element (range_with_len 0 at) in
    let label : c.deref.result.now ≡ label_at at =
    c.deref.ensures.value ∙ c.in_ok-label.ensures ∙ ap (λ (v : Value). label_of (value_field v)) c.value.ensures in
    c.in_ok-extend_from_slice-2.ensures.items
    ∙ ap (λ (l : List ℕ). l ++ 32 ∷ 32 ∷ [])
    (c.in_ok-extend_from_slice.ensures.items
    ∙ ap (λ (l : List ℕ). l ++ c.deref.result.now) c.columns.invariant
    ∙ ap (λ (l : List ℕ). before ++ l) label)
    ∙ two_as_one before (label_at at) (32 ∷ 32 ∷ [])
    ∙ flat_map_step element text at
