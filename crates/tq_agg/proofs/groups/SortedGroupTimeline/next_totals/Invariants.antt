-- The next totals so far.
use Rattle.std.proofs.Common.{◌≡◌, take}
use Rattle.tq_base.specs.SortInputs.{state_of}
use Rattle.tq_agg.specs.Totals.{totals_of}
use Rattle.tq_agg.proofs.groups.SortedGroupTimeline.next_totals.Given as goal

abbrev pub invariant-summands : goal.invariant-summands
invariant-summands l =
    l.next.items ≡ totals_of (state_of l.self.group.now.sort_input.now) (take l.place l.self.group.now.summands.now) (take l.fn.to.begun l.self.group.now.keys.now) (take l.fn.to.ended l.self.ends.now)
