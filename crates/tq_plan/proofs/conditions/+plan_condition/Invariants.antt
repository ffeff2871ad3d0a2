-- The steps lead back from the part, and then from its plan, to the whole.
use Rattle.std.proofs.Common.{◌≡◌, ◌≤◌, Ok, map, vec_len}
use Rattle.tq_plan.specs.Conditions.{test_of}
use Rattle.tq_plan.specs.Views.{field_view}
use Rattle.tq_plan.specs.Steps.{all_rebuilt}
use Rattle.tq_plan.proofs.ConditionLemmas.{weight}
use Rattle.tq_plan.proofs.conditions.+plan_condition.Given as goal

abbrev pub decreases-plan_condition : goal.decreases-plan_condition
decreases-plan_condition l = weight l.cond.now

abbrev pub decreases-parts : goal.decreases-parts
decreases-parts l = weight l.part

abbrev pub invariant-parts : goal.invariant-parts
invariant-parts l = record {
  no_deeper : weight l.part ≤ weight l.fn.cond;
  leads_back : all_rebuilt l.steps.items (test_of (map field_view l.fields) l.part) ≡ test_of (map field_view l.fields) l.fn.cond;
}

abbrev pub decreases-steps : goal.decreases-steps
decreases-steps l = vec_len l.steps

abbrev pub invariant-steps : goal.invariant-steps
invariant-steps l = test_of (map field_view l.fields) l.fn.cond ≡ all_rebuilt l.steps.items (Ok l.test)
