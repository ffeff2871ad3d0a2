-- A total of 0 for each summand so far.
use Rattle.std.proofs.Common.{◌≡◌, map, pos, take}
use Rattle.tq_agg.proofs.groups.SortedGroupTimeline.first_totals.Given as goal

abbrev pub invariant-summands : goal.invariant-summands
invariant-summands l = l.next.items ≡ map (λ s. pos 0) (take l._summand-index l.self.group.now.summands.now)
