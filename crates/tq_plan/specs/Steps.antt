-- Steps down a condition, and the way back to the planned whole.
use Rattle.std.specs.Prelude.{List, [], ◌∷◌, Result}
use Rattle.tq_condition.specs.declared.condition.Test.{Test}
use Rattle.tq_condition.specs.declared.condition.Test.TheVariants as test
use Rattle.tq_plan.specs.declared.fault.PlanFault.{PlanFault}
use Rattle.tq_plan.specs.declared.conditions.Step.{Step}
use Rattle.tq_plan.specs.declared.conditions.Step.TheVariants as step
use Rattle.tq_plan.specs.Conditions.{both, negated}

-- the plan of the condition from which the step was taken, given the plan of the part to which it leads
abbrev pub rebuilt : Step → Result Test PlanFault → Result Test PlanFault
rebuilt (step.And last) first = both test.And first last
rebuilt (step.Or last) first = both test.Or first last
rebuilt step.Not inner = negated inner

-- the plan of the condition at which the steps began
abbrev pub all_rebuilt : List Step → Result Test PlanFault → Result Test PlanFault
all_rebuilt [] part = part
all_rebuilt (s ∷ steps) part = rebuilt s (all_rebuilt steps part)
