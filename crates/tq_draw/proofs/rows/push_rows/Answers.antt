use Rattle.std.proofs.Common.{◌∙◌, List, ℕ, ◌++◌, ap}
use Rattle.tq_draw.specs.Pictures.{drawn_row}
use Rattle.tq_draw.proofs.PieceLemmas.{texts_of_rows}
use Rattle.tq_draw.proofs.rows.push_rows.Goals as goal

pub returns : goal.returns
returns g c =
    c.in_ok-push_lines.ensures
    ∙ ap (λ (l : List ℕ). c.args.text.now.items ++ l) (texts_of_rows (drawn_row c.args.widths.now c.args.scale.now) c.args.rows.now)
