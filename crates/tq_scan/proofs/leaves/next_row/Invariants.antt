use Rattle.std.proofs.Common.{◌≡◌, ◌+◌, ◌≤◌, min, take}
use Rattle.tq_scan.specs.Follows.{children_of}
use Rattle.tq_scan.proofs.leaves.next_row.Given as goal

abbrev pub invariant-loop-number : goal.invariant-loop-number
invariant-loop-number l = record {
  children : l.next.items ≡ children_of l.part l.tree.nodes (take l.number-index l.row);
  at_least : min (l.initial.meter + l.number-index) 18446744073709551615 ≤ l.meter;
  at_most : l.meter ≤ l.initial.meter + l.number-index;
}
