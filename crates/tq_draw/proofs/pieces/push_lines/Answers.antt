use Rattle.std.proofs.Common.{◌∙◌, List, ℕ, ◌++◌, ap}
use Rattle.tq_draw.proofs.PieceLemmas.{texts_are}
use Rattle.tq_draw.proofs.pieces.push_lines.Goals as goal

pub returns : goal.returns
returns g c =
    let line = g.L.Lines.line c.args.lines.now in
    let len = g.L.Lines.rows c.args.lines.now in
    c.in_ok-push_texts.ensures
    ∙ ap (λ (l : List ℕ). c.args.text.now.items ++ l) (texts_are line len c.in_ok-texts.texts.items c.in_ok-texts.ensures)
