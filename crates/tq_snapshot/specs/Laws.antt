-- Answers as of equal counts. This project's own.
use Rattle.std.specs.Prelude.{◌≡◌, ℕ, ◌≤◌, List, length}
use mathlib.Core.List.{IsPrefix}
use Rattle.tq_base.specs.declared.catalogue.Catalogue.{Catalogue}
use Rattle.tq_event.specs.declared.event.Event.{Event}
use Rattle.tq_plan.specs.declared.plans.Plan.{Plan}
use Rattle.tq_plan.specs.ValidPlans.{IsPlanOver}
use Rattle.tq_table.specs.declared.table.Table.{Table}
use Rattle.tq_exec.specs.Answers.{IsPlanAnswer}

-- an answer as of events that were observed before is that of the observed events, whatever was found
abbrev pub ObservedAnswers : Type 0
ObservedAnswers = (observed found : List Event) (n : ℕ) (plan : Plan) (table : Table)
    → IsPrefix observed found → n ≤ length observed → IsPlanAnswer found n plan table → IsPlanAnswer observed n plan table

-- two answers of a plan as of the same count of events, all observed before, are equal, whatever was found for each
abbrev pub EqualAsksAgree : Type 0
EqualAsksAgree = (catalogue : Catalogue) (observed found other : List Event) (n : ℕ) (plan : Plan) (a b : Table)
    → IsPlanOver catalogue plan → n ≤ length observed → IsPrefix observed found → IsPrefix observed other
    → IsPlanAnswer found n plan a → IsPlanAnswer other n plan b → a ≡ b
