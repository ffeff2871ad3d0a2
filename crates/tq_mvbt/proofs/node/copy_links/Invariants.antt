use Rattle.std.proofs.Common.{◌≡◌, take}
use Rattle.tq_mvbt.proofs.node.copy_links.Given as goal

abbrev pub invariant-loop-link : goal.invariant-loop-link
invariant-loop-link l = record {
  items : l.copied.items ≡ take l.link-index l.link-items;
  capacity : l.copied.capacity ≡ 2;
}
