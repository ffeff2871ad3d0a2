-- Steps down a condition, and the way back to the whole.
use Rattle.std.specs.Prelude.{List, [], ◌∷◌}
use Rattle.tq_condition.specs.declared.condition.Step.{Step}
use Rattle.tq_condition.specs.declared.condition.Step.TheVariants as step
use Rattle.tq_condition.specs.declared.condition.Test.{Test}
use Rattle.tq_condition.specs.declared.condition.Test.TheVariants as test

-- the condition from which the step was taken, given the part to which it leads
abbrev pub rebuilt : Step → Test → Test
rebuilt (step.And last) part = test.And part last
rebuilt (step.Or last) part = test.Or part last
rebuilt step.Not part = test.Not part

-- the condition at which the steps began, given the part to which the last one leads
abbrev pub all_rebuilt : List Step → Test → Test
all_rebuilt [] part = part
all_rebuilt (s ∷ steps) part = rebuilt s (all_rebuilt steps part)
