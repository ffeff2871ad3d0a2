-- The bytes so far are counted.
use Rattle.std.proofs.Common.{◌≡◌, ◌+◌, length, take}
use Rattle.tq_event.specs.FileBytes.{bytes_in}
use Rattle.tq_event.proofs.bytes.total.Given as goal

abbrev pub invariant-pieces : goal.invariant-pieces
invariant-pieces l = l.len ≡ l.front + length (bytes_in (take l.piece-index l.pieces))
