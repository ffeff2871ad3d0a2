-- The remaining condition is no deeper than the whole.
use Rattle.std.proofs.Common.{◌≤◌}
use Rattle.tq_condition.specs.declared.condition.Test.{size-Test}
use Rattle.tq_condition.proofs.condition.Test.+drop.Given as goal

abbrev pub decreases-drop : goal.decreases-drop
decreases-drop l = goal.size-drop l

abbrev pub invariant-loop-self : goal.invariant-loop-self
invariant-loop-self l = size-Test l.self ≤ size-Test l.fn.self
