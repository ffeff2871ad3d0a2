-- The pieces so far are those of the first ranges.
use Rattle.std.proofs.Common.{take}
use Rattle.tq_exec.specs.Reads.{AreCut}
use Rattle.tq_exec.proofs.read_pieces.cut_ranges.Given as goal

abbrev pub invariant-each : goal.invariant-each
invariant-each l = AreCut l.db.events l.n l.period l.table (take l.keys-index l.ranges) l.pieces.items
