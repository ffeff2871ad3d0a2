use Rattle.std.proofs.Common.{◌≡◌, ◌∙◌, List, ℕ, ◌++◌, ap, get_or}
use Rattle.std.specs.List.{flat_map, range_with_len}
use Rattle.tq_base.specs.declared.value.Value.{Value}
use Rattle.tq_draw.specs.Labels.{label_of}
use Rattle.tq_table.specs.Text.{value_field}
use Rattle.tq_draw.specs.Pictures.{value_label}
use Rattle.tq_draw.specs.Svg.{label_element, text_element, x_of}
use Rattle.tq_draw.proofs.Steps.{flat_map_step}
use Rattle.tq_draw.proofs.svg.push_values.Goals as goal

pub columns-preserved : goal.columns-preserved
columns-preserved c =
    let y = c.args.y in
    let labels = value_label c.args.row.now in
    let element = label_element c.args.lefts.now y labels in
    let text = c.args.text.now.items in
    let before = text ++ flat_map element (range_with_len 0 c.columns.column) in
    let x = x_of (get_or c.args.lefts.now c.columns.column 0) in
    let label : c.in_ok-label.label.items ≡ labels c.columns.column = c.in_ok-label.ensures ∙ ap (λ (v : Value). label_of (value_field v)) c.value.ensures in
    c.in_ok-push_text.ensures
    ∙ ap (λ (l : List ℕ). l ++ text_element c.x_of.result y c.deref.result.now) c.columns.invariant
    ∙ ap (λ (n : ℕ). before ++ text_element n y c.deref.result.now) c.x_of.ensures
    ∙ ap (λ (l : List ℕ). before ++ text_element x y l) (c.deref.ensures.value ∙ label)
    ∙ flat_map_step element text c.columns.column
