-- The lists so far have the width, and are in order.
use Rattle.std.specs.Prelude.{All}
use Rattle.tq_table.specs.Merging.{AreInOrder, AreOfWidth}
use Rattle.tq_tests_base.proofs.operators.merged.Given as goal

abbrev pub invariant-lists : goal.invariant-lists
invariant-lists l = record {
  wide : All (AreOfWidth l.fn.width) l.pieces.items;
  in_order : All AreInOrder l.pieces.items;
}
