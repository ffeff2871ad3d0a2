use Rattle.std.proofs.Common.{◌≡◌, length, take}
use Rattle.tq_draw.specs.Pieces.{piece_start, widest_of}
use Rattle.tq_draw.proofs.widths.width_of.Given as goal

abbrev pub invariant-pieces : goal.invariant-pieces
invariant-pieces l = l.width ≡ widest_of l.column (take (piece_start (length l.rows) l.piece) l.rows) l.name_width
