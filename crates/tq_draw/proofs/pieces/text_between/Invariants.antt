use Rattle.std.proofs.Common.{◌≡◌, ◌++◌}
use Rattle.tq_draw.specs.Pieces.{texts_of}
use Rattle.tq_draw.proofs.pieces.text_between.Given as goal

abbrev pub invariant-rows : goal.invariant-rows
invariant-rows g l = texts_of (g.L.Lines.line l.lines) l.first ++ l.text.items ≡ texts_of (g.L.Lines.line l.lines) l.row
