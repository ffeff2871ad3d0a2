use Rattle.std.proofs.Common.{◌≡◌, ◌++◌, map, filter, take}
use Rattle.tq_mvbt.specs.declared.node.Link.{Link}
use Rattle.tq_scan.specs.Follows.{is_followed}
use Rattle.tq_scan.proofs.leaves.push_linked.Given as goal

abbrev pub invariant-loop-link : goal.invariant-loop-link
invariant-loop-link l = l.leaves.items ≡ l.initial.leaves.items ++ map (λ (x : Link). x.node) (filter (is_followed l.part l.leaf) (take l.link-index l.link-items))
