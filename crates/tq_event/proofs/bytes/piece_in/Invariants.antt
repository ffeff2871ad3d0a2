-- The bytes from the place on are those of the remaining lists, from the place `rest` on.
use Rattle.std.proofs.Common.{◌≡◌, drop}
use Rattle.tq_event.specs.FileBytes.{bytes_in}
use Rattle.tq_event.proofs.bytes.piece_in.Given as goal

abbrev pub invariant-pieces : goal.invariant-pieces
invariant-pieces l = drop l.start (bytes_in l.pieces) ≡ drop l.rest (bytes_in (drop l.piece-index l.pieces))
