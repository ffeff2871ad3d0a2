-- The part weighs no more, and the ranges hold what the whole allows.
use Rattle.std.proofs.Common.{◌≤◌}
use Rattle.tq_condition.proofs.Conditions.{weight}
use Rattle.tq_condition.proofs.Ranging.{Leads}
use Rattle.tq_condition.proofs.condition.Test.+numbers_within.Given as goal

abbrev pub decreases-numbers_within : goal.decreases-numbers_within
decreases-numbers_within l = weight l.self.now

abbrev pub decreases-parts : goal.decreases-parts
decreases-parts l = weight l.part

abbrev pub invariant-parts : goal.invariant-parts
invariant-parts l = record {
  no_heavier : weight l.part ≤ weight l.fn.self;
  leads : Leads l.fn.self l.fn.wanted l.place l.fn.within l.part l.wanted l.allowed.within l.allowed.also;
}
