-- When the rows of an answer begin and end. This project's own.
use Rattle.std.specs.Prelude.{ℕ, List, ◌∷◌, All, Contains, map, take}
use Rattle.tq_base.specs.declared.fragment.Fragment.{Fragment}
use Rattle.tq_base.specs.declared.period.TheConstants.{FOREVER}
use Rattle.tq_event.specs.declared.event.Event.{Event}
use Rattle.tq_event.specs.History.{time_of}
use Rattle.tq_table.specs.declared.table.Table.{Table}
use Rattle.tq_plan.specs.declared.plans.Plan.{Plan}
use Rattle.tq_exec.specs.Answers.{IsPlanAnswer}

-- the bounds that are given beforehand: 0, `forever`, those of the window, and the times of the first n events
abbrev pub given_bounds : List Event → ℕ → Plan → List ℕ
given_bounds history n plan = 0 ∷ FOREVER ∷ plan.window.start ∷ plan.window.end ∷ map time_of (take n history)

-- the row begins and ends at bounds of the list
abbrev pub IsBoundedBy : List ℕ → Fragment → Type 0
IsBoundedBy bounds row = Contains bounds row.period.start × Contains bounds row.period.end

-- no row of an answer as of the first n events begins or ends at another bound
abbrev pub BoundsAreGiven : Type 0
BoundsAreGiven = (history : List Event) (n : ℕ) (plan : Plan) (table : Table)
    → IsPlanAnswer history n plan table → All (IsBoundedBy (given_bounds history n plan)) table.rows
