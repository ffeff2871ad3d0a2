use Rattle.std.proofs.Common.{◌≡◌, ◌++◌, map, filter, take}
use Rattle.tq_mvbt.specs.declared.entry.Entry.{Entry}
use Rattle.tq_scan.specs.Follows.{is_met_child}
use Rattle.tq_scan.proofs.leaves.push_children.Given as goal

abbrev pub invariant-loop-place : goal.invariant-loop-place
invariant-loop-place l = l.row.items ≡ l.initial.row.items ++ map (λ (e : Entry). record { 0 = e.child }) (filter (is_met_child l.part) (take l.place l.node.entries))
