-- Each start so far comes by the bound.
use Rattle.std.proofs.Common.{◌≤◌, ◌-◌, drop, length, take}
use Rattle.std.specs.Prelude.{All}
use Rattle.tq_agg.proofs.sweeping.starts_by.Given as goal

abbrev pub invariant-starts : goal.invariant-starts
invariant-starts g l = record {
  within : l.len ≤ length (drop l.begun (g.T.Timeline.starts l.timeline));
  by : All (λ b. b ≤ l.at) (take l.len (drop l.begun (g.T.Timeline.starts l.timeline)));
}

abbrev pub decreases-starts : goal.decreases-starts
decreases-starts g l = length (drop l.begun (g.T.Timeline.starts l.timeline)) - l.len
