use Rattle.tq_draw.specs.Pieces.{IsWidest}
use Rattle.tq_draw.proofs.widths.widest.Given as goal

abbrev pub invariant-rows : goal.invariant-rows
invariant-rows l = IsWidest l.column l.rows l.first l.row l.widest
