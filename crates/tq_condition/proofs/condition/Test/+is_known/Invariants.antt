-- The part is no deeper, and if it is known, the whole is.
use Rattle.std.proofs.Common.{◌≤◌}
use Rattle.tq_condition.specs.Known.{IsKnownTest}
use Rattle.tq_condition.proofs.Conditions.{weight}
use Rattle.tq_condition.proofs.condition.Test.+is_known.Given as goal

abbrev pub decreases-is_known : goal.decreases-is_known
decreases-is_known l = weight l.self.now

abbrev pub decreases-parts : goal.decreases-parts
decreases-parts l = weight l.part

abbrev pub invariant-parts : goal.invariant-parts
invariant-parts l = record {
  no_deeper : weight l.part ≤ weight l.fn.self;
  leads : IsKnownTest l.part l.first l.count → IsKnownTest l.fn.self l.first l.count;
}
