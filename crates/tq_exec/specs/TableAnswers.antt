-- Tables of rows, each row with the period at which it is valid, that hold what a history holds.
use Rattle.std.specs.Prelude.{ℕ, List, All}
use Rattle.tq_base.specs.declared.fragment.Fragment.{Fragment}
use Rattle.tq_event.specs.declared.event.Event.{Event}
use Rattle.tq_event.specs.Tables.{HoldsRows}
use Rattle.tq_table.specs.declared.table.Table.{Table}
use Rattle.tq_plan.specs.declared.plans.Plan.{Plan}
use Rattle.tq_plan.specs.ValidPlans.{IsPlan}
use Rattle.tq_exec.specs.Answers.{tables_read, IsPlanAnswer, IsTablesAnswer}

-- if the tables that a plan reads hold what a history holds, both give it the same answer
abbrev pub TablesAnswer : Type 0
TablesAnswer = (tables : List (List Fragment)) (history : List Event) (n : ℕ) (plan : Plan) (table : Table) → IsPlan plan
    → All (HoldsRows tables history n) (tables_read plan) → IsTablesAnswer tables plan table → IsPlanAnswer history n plan table
