-- The steps lead back from the part, and then from its copy, to the whole.
use Rattle.std.proofs.Common.{◌≡◌, ◌≤◌, vec_len}
use Rattle.tq_condition.proofs.Conditions.{weight}
use Rattle.tq_condition.specs.Steps.{all_rebuilt}
use Rattle.tq_condition.proofs.condition.Test.+try_copy.Given as goal

abbrev pub decreases-try_copy : goal.decreases-try_copy
decreases-try_copy l = weight l.self.now

abbrev pub decreases-parts : goal.decreases-parts
decreases-parts l = weight l.part

abbrev pub invariant-parts : goal.invariant-parts
invariant-parts l = record {
  no_deeper : weight l.part ≤ weight l.fn.self;
  leads_back : all_rebuilt l.steps.items l.part ≡ l.fn.self;
}

abbrev pub decreases-steps : goal.decreases-steps
decreases-steps l = vec_len l.steps

abbrev pub invariant-steps : goal.invariant-steps
invariant-steps l = all_rebuilt l.steps.items l.copy ≡ l.fn.self
