use Rattle.std.proofs.Common.{◌≡◌, ◌∙◌, List, ℕ, [], ◌++◌, ap, rules, arith}
use Rattle.std.proofs.lemmas.Grind.{common_steps}
use Rattle.tq_draw.specs.Labels.{column_at}
use Rattle.tq_draw.proofs.Steps.{flat_map_step}
use Rattle.tq_draw.proofs.rows.push_blanks.Goals as goal

pub columns-preserved : goal.columns-preserved
columns-preserved c =
    let column = column_at c.args.widths.now (λ _. []) in
    let added : c.push_column.new.text.items ≡ c.columns.text.items ++ column c.columns.column =
    first_of (search rules, grind (arith, common_steps)) in
    added ∙ ap (λ (l : List ℕ). l ++ column c.columns.column) c.columns.invariant ∙ flat_map_step column c.args.text.now.items c.columns.column
