-- The pieces so far are those of the first tables.
use Rattle.std.proofs.Common.{◌≡◌, take}
use Rattle.tq_exec.specs.Reads.{all_pieces}
use Rattle.tq_exec.proofs.read_pieces.all_pieces.Given as goal

abbrev pub invariant-tables : goal.invariant-tables
invariant-tables l = l.pieces.items ≡ all_pieces (take l.table-index l.tables)
