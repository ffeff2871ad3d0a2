use Rattle.std.proofs.Common.{◌≡◌, ◌∙◌, List, ℕ, ◌++◌, ap, get_or}
use Rattle.std.specs.List.{flat_map, range_with_len}
use Rattle.tq_base.specs.declared.value.Value.{Value}
use Rattle.tq_draw.specs.Labels.{column_at, column_text, label_of}
use Rattle.tq_draw.specs.Pictures.{value_label}
use Rattle.tq_table.specs.Text.{value_field}
use Rattle.tq_draw.proofs.Steps.{flat_map_step}
use Rattle.tq_draw.proofs.rows.push_values.Goals as goal

pub columns-preserved : goal.columns-preserved
columns-preserved c =
    let values = value_label c.args.row.now in
    let column = column_at c.args.widths.now values in
    let text = c.args.text.now.items in
    let wide = get_or c.args.widths.now c.columns.column 0 in
    let escaped_text : c.in_ok-label.label.items ≡ values c.columns.column =
    c.in_ok-label.ensures ∙ ap (λ (v : Value). label_of (value_field v)) c.value.ensures in
    c.in_ok-push_column.ensures
    ∙ ap (λ (l : List ℕ). l ++ column_text wide c.deref.result.now) c.columns.invariant
    ∙ ap (λ (l : List ℕ). (text ++ flat_map column (range_with_len 0 c.columns.column)) ++ column_text wide l) (c.deref.ensures.value ∙ escaped_text)
    ∙ flat_map_step column text c.columns.column
