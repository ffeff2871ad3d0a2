-- The pieces so far are those of the first parts.
use Rattle.std.proofs.Common.{◌≡◌, ◌++◌, take}
use Rattle.tq_exec.specs.Reads.{pieces_for}
use Rattle.tq_exec.proofs.read_pieces.add_pieces.Given as goal

abbrev pub invariant-parts : goal.invariant-parts
invariant-parts l = l.pieces.items ≡ l.initial.pieces.items ++ pieces_for l.table_keys (take l.part-index l.parts)
