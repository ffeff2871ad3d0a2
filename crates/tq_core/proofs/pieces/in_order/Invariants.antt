-- The pieces so far, followed by those of the workers that are left, are all pieces.
use Rattle.std.proofs.Common.{◌≡◌, ◌++◌, drop}
use Rattle.std.specs.List.{enumerate_from}
use Rattle.tq_core.proofs.pieces.in_order.Given as goal

abbrev pub invariant-loop-piece : goal.invariant-loop-piece
invariant-loop-piece l = record {
  listed : l.order.items ++ enumerate_from l.piece (drop l.piece l.claimants) ≡ enumerate_from 0 l.claimants;
}
