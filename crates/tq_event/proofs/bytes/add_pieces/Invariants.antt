-- The lists so far were appended.
use Rattle.std.proofs.Common.{◌≡◌, ◌++◌, take}
use Rattle.tq_event.specs.FileBytes.{bytes_in}
use Rattle.tq_event.proofs.bytes.add_pieces.Given as goal

abbrev pub invariant-pieces : goal.invariant-pieces
invariant-pieces l = l.bytes.items ≡ l.fn.bytes.items ++ bytes_in (take l.piece-index l.pieces)
