-- Each end so far comes by the bound.
use Rattle.std.proofs.Common.{◌≤◌, ◌-◌, drop, length, take}
use Rattle.std.specs.Prelude.{All}
use Rattle.tq_agg.proofs.sweeping.ends_by.Given as goal

abbrev pub invariant-ends : goal.invariant-ends
invariant-ends g l = record {
  within : l.len ≤ length (drop l.ended (g.T.Timeline.ends l.timeline));
  by : All (λ b. b ≤ l.at) (take l.len (drop l.ended (g.T.Timeline.ends l.timeline)));
}

abbrev pub decreases-ends : goal.decreases-ends
decreases-ends g l = length (drop l.ended (g.T.Timeline.ends l.timeline)) - l.len
