use Rattle.std.proofs.Common.{◌≡◌, ◌+◌, ◌-◌, ◌≤◌, ◌++◌, min, take, length}
use Rattle.std.specs.Prelude.{All}
use Rattle.tq_arena.specs.declared.arena.NodeNo.{NodeNo}
use Rattle.tq_scan.specs.Scans.{IsMetLeaf}
use Rattle.tq_scan.specs.Reports.{keys_of}
use Rattle.tq_scan.specs.Follows.{followed_from}
use Rattle.tq_scan.proofs.scanning.read_leaves.Given as goal

abbrev pub decreases-leaves : goal.decreases-leaves
decreases-leaves l = length l.tree.nodes - l.place

abbrev pub invariant-leaves : goal.invariant-leaves
invariant-leaves l = record {
  within : l.place ≤ length l.leaves.items;
  met : All (λ (a : NodeNo). IsMetLeaf l.tree.nodes l.part a.0) l.leaves.items;
  grown : l.leaves.items ≡ l.initial.leaves.items ++ followed_from l.part l.tree.nodes (take l.place l.leaves.items);
  keys : l.keys.items ≡ keys_of l.window l.part l.tree.nodes (take l.place l.leaves.items);
  at_least : min (l.initial.meter + l.place) 18446744073709551615 ≤ l.meter;
  at_most : l.meter ≤ l.initial.meter + l.place;
}
