-- The answers of a run of the core machine whose queries are plans. This project's own.
use Rattle.std.specs.Prelude.{ℕ, ◌≤◌, List, length}
use Rattle.tq_core.specs.declared.step.Reply.{Reply}
use Rattle.tq_core.specs.declared.step.Reply.TheVariants.{Answer}
use Rattle.tq_core.specs.declared.step.Step.{Step}
use Rattle.tq_core.specs.declared.step.Step.TheVariants.{Ask}
use Rattle.tq_core.specs.Machine.{Machine}
use Rattle.tq_core.specs.Runs.{AnswersOverLast, IsAt}
use Rattle.tq_table.specs.declared.table.Table.{Table}
use Rattle.tq_plan.specs.declared.plans.Plan.{Plan}
use Rattle.tq_exec.specs.Answers.{IsPlanAnswer}
use Rattle.tq_oracle.specs.Plain.{plain_answer, PlansHaveOneAnswer}

-- each answer to an Ask of a plan as of n events is the answer of that plan as of n, over the events published in the
-- end; at least n are published
abbrev pub AsksAnswerPlans : List (Step Plan) → List (Reply Table) → Machine → Type 0
AsksAnswerPlans steps replies after =
    (place reader n pieces : ℕ) (plan : Plan) (table : Table) → IsAt steps replies place (Ask reader n plan pieces) (Answer table)
    → (n ≤ length after.published) × IsPlanAnswer after.published n plan table

-- this holds for each run with the answers of `Plain`
abbrev pub RunsAnswerPlans : PlansHaveOneAnswer → Type 0
RunsAnswerPlans one_answer = (steps : List (Step Plan)) (replies : List (Reply Table)) (after : Machine)
    → AnswersOverLast (λ catalogue events plan. plain_answer one_answer events plan) steps replies after
    → AsksAnswerPlans steps replies after
