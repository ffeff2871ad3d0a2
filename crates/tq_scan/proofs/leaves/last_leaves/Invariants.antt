use Rattle.std.proofs.Common.{◌+◌, ◌-◌, ◌*◌, ◌≤◌, min, length}
use Rattle.tq_scan.specs.Rows.{IsRowOf}
use Rattle.tq_scan.proofs.leaves.last_leaves.Given as goal

abbrev pub invariant-loop-passed : goal.invariant-loop-passed
invariant-loop-passed l = record {
  some : 1 ≤ l.passed;
  row : IsRowOf l.tree.nodes l.part (l.levels - l.passed) l.row.items;
  at_least : min (l.initial.meter + (l.passed - 1)) 18446744073709551615 ≤ l.meter;
  at_most : l.meter ≤ l.initial.meter + (l.passed - 1) * length l.row.items;
}
