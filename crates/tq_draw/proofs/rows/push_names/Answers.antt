use Rattle.std.proofs.Common.{◌≡◌, ◌∙◌, List, ℕ, ◌++◌, ap, rules, arith, get_or}
use Rattle.std.proofs.lemmas.Grind.{common_steps}
use Rattle.std.specs.List.{flat_map, range_with_len}
use Rattle.tq_draw.specs.Labels.{column_at, column_text}
use Rattle.tq_draw.specs.Pictures.{name_label}
use Rattle.tq_draw.proofs.Steps.{flat_map_step}
use Rattle.tq_draw.proofs.rows.push_names.Goals as goal

pub columns-preserved : goal.columns-preserved
columns-preserved c =
    let names = name_label c.args.columns.now in
    let column = column_at c.args.widths.now names in
    let text = c.args.text.now.items in
    let wide = get_or c.args.widths.now c.columns.column 0 in
    let named : c.in_ok-label.label.items ≡ names c.columns.column = first_of (search rules, grind (arith, common_steps)) in
    c.in_ok-push_column.ensures
    ∙ ap (λ (l : List ℕ). l ++ column_text wide c.deref.result.now) c.columns.invariant
    ∙ ap (λ (l : List ℕ). (text ++ flat_map column (range_with_len 0 c.columns.column)) ++ column_text wide l) (c.deref.ensures.value ∙ named)
    ∙ flat_map_step column text c.columns.column
