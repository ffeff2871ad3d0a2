use Rattle.std.proofs.Common.{◌≡◌, take}
use Rattle.tq_mvbt.specs.Links.{linked_numbers}
use Rattle.tq_mvbt.proofs.region.linked_leaves.Given as goal

abbrev pub invariant-loop-link : goal.invariant-loop-link
invariant-loop-link l = l.numbers.items ≡ linked_numbers (take l.link-index l.links)
