use Rattle.std.proofs.Common.{◌≡◌, ◌∙◌, List, ℕ, ◌++◌, ap, append_assoc, rules, arith}
use Rattle.std.proofs.lemmas.Grind.{common_steps}
use Rattle.std.specs.List.{flat_map, range_with_len}
use Rattle.tq_report.specs.Layouts.{name_at}
use Rattle.tq_report.specs.Texts.{name_in}
use Rattle.tq_draw.proofs.Steps.{flat_map_step}
use Rattle.tq_report.specs.Reports.{column_text, field_text, tail_text}
use Rattle.tq_report.proofs.lines.push_name_fields.Goals as goal

pub columns-preserved : goal.columns-preserved
columns-preserved c =
    let format = c.args.lines.now.options.now.format in
    let layout = c.args.lines.now.layout in
    let text_at = λ (column : ℕ). name_in format (name_at c.args.columns.now column) in
    let column = column_text format layout text_at in
    let text = c.args.text.now.items in
    let at = c.columns.column in
    let before = text ++ flat_map column (range_with_len 0 at) in
    let named : c.push_name.new.text.items ≡ text_at at = first_of (search rules, grind (arith, common_steps)) in
    c.in_ok-push_tail.ensures
    ∙ ap (λ (l : List ℕ). l ++ tail_text format) c.in_ok-push_field.ensures
    ∙ ap (λ (l : List ℕ). l ++ field_text format layout at c.deref.result.now ++ tail_text format) c.columns.invariant
    ∙ ap (λ (l : List ℕ). before ++ field_text format layout at l ++ tail_text format) (c.deref.ensures.value ∙ named)
    ∙ append_assoc before (field_text format layout at (text_at at)) (tail_text format)
    ∙ flat_map_step column text at
