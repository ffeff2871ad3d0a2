use Rattle.std.proofs.Common.{◌∙◌, List, ℕ, ◌++◌, ap}
use Rattle.std.specs.List.{flat_map, range_with_len}
use Rattle.tq_base.specs.declared.value.Value.{Value}
use Rattle.tq_draw.specs.Html.{text_cell, value_cell}
use Rattle.tq_table.specs.Text.{value_field}
use Rattle.tq_draw.proofs.Steps.{flat_map_step}
use Rattle.tq_draw.proofs.html.push_value_cells.Goals as goal

pub columns-preserved : goal.columns-preserved
columns-preserved c =
    let element = value_cell c.args.row.now in
    let text = c.args.text.now.items in
    let before = text ++ flat_map element (range_with_len 0 c.columns.column) in
    c.in_ok-push_value_cell.ensures
    ∙ ap (λ (l : List ℕ). l ++ text_cell (value_field c.value.result.now)) c.columns.invariant
    ∙ ap (λ (v : Value). before ++ text_cell (value_field v)) c.value.ensures
    ∙ flat_map_step element text c.columns.column
