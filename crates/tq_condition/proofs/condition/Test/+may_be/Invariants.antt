-- The whole can have the truth exactly if the part can, and the part is no deeper.
use Rattle.std.proofs.Common.{◌≡◌, ◌≤◌}
use Rattle.tq_condition.specs.Known.{known_value, may_be}
use Rattle.tq_condition.proofs.Conditions.{weight}
use Rattle.tq_condition.proofs.condition.Test.+may_be.Given as goal

abbrev pub decreases-may_be : goal.decreases-may_be
decreases-may_be l = weight l.self.now

abbrev pub decreases-parts : goal.decreases-parts
decreases-parts l = weight l.part

abbrev pub invariant-parts : goal.invariant-parts
invariant-parts l = record {
  no_deeper : weight l.part ≤ weight l.fn.self;
  same : may_be (known_value l.known) l.fn.self l.fn.wanted ≡ may_be (known_value l.known) l.part l.wanted;
}
