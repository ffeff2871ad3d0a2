use Rattle.std.proofs.Common.{◌∙◌, List, ℕ, [], ◌++◌, ap, get_or}
use Rattle.std.specs.List.{flat_map, range_with_len}
use Rattle.tq_draw.proofs.Steps.{as_one_piece, flat_map_step}
use Rattle.tq_report.specs.Reports.{cell_text, column_text, tail_text, value_text}
use Rattle.tq_report.proofs.lines.push_value_fields.Goals as goal

pub columns-preserved : goal.columns-preserved
columns-preserved c =
    let options = c.args.lines.now.options.now in
    let layout = c.args.lines.now.layout in
    let text_at = value_text options c.args.row.now in
    let column = column_text options.format layout text_at in
    let text = c.args.text.now.items in
    let at = c.columns.column in
    let before = text ++ flat_map column (range_with_len 0 at) in
    let lead = get_or layout.leads at [] in
    let cell = cell_text options.format layout at (text_at at) in
    let tail = tail_text options.format in
    c.in_ok-push_tail.ensures
    ∙ ap (λ (l : List ℕ). l ++ tail) c.in_ok-push_value_cell.ensures
    ∙ ap (λ (l : List ℕ). l ++ cell ++ tail) c.in_ok-extend_from_slice.ensures.items
    ∙ ap (λ (l : List ℕ). (c.columns.text.items ++ l) ++ cell ++ tail) c.lead.ensures
    ∙ ap (λ (l : List ℕ). (l ++ lead) ++ cell ++ tail) c.columns.invariant
    ∙ as_one_piece before lead cell tail
    ∙ flat_map_step column text at
