use Rattle.std.proofs.Common.{◌∙◌, ◌++◌, [], ap, append_assoc, sym}
use Rattle.tq_draw.specs.Pieces.{texts_of}
use Rattle.tq_draw.proofs.Steps.{flat_map_step}
use Rattle.tq_draw.proofs.pieces.text_between.Goals as goal

pub rows-preserved : goal.rows-preserved
rows-preserved g c =
    let line = g.L.Lines.line c.args.lines.now in
    let before = texts_of line c.args.first in
    let at = c.rows.row in
    ap (λ l. before ++ l) c.in_ok-push.ensures
    ∙ sym (append_assoc before c.rows.text.items (line at))
    ∙ ap (λ l. l ++ line at) c.rows.invariant
    ∙ flat_map_step line [] at
