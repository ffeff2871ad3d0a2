-- How the columns that a plan names are found. This project's own.
use Rattle.tq_event.specs.Projection.{is_wanted}
use Rattle.std.specs.Prelude.{◌≡◌, ℕ, ◌+◌, ◌==◌, ◌&&◌, ◌||◌, Bool, true, false, List, Option, Some, None}
use Rattle.std.specs.List.{list_any}
use Rattle.tq_condition.specs.Conditions.{operand_value, passes}
use Rattle.tq_condition.specs.declared.condition.Operand.{Operand}
use Rattle.tq_condition.specs.declared.condition.Test.{Test}
use Rattle.tq_agg.specs.Grouping.{Row}
use Rattle.tq_plan.specs.declared.plans.Plan.{Plan}
use Rattle.tq_plan.specs.declared.plans.QueryPlan.{QueryPlan}
use Rattle.tq_plan.specs.declared.plans.QuerySource.{QuerySource}
use Rattle.tq_exec.specs.Required.{AgreeAt, QueryReads}

-- ---- places

-- the one list wants what the other one wants
abbrev pub AreMore : List Bool → List Bool → Type 0
AreMore places more = (place : ℕ) → is_wanted places place ≡ true → is_wanted more place ≡ true

-- the operand reads no other places
abbrev pub OperandReads : (ℕ → Bool) → Operand → Type 0
OperandReads places operand = (row other : Row) → AgreeAt places row other → operand_value operand row ≡ operand_value operand other

-- the condition reads no other places
abbrev pub TestReads : (ℕ → Bool) → Test → Type 0
TestReads places test = (row other : Row) → AgreeAt places row other → passes test row ≡ passes test other

-- each query of the plan reads no other places than its own
pub record QueriesRead (left right : List Bool) (plan : Plan) : Type 0 where
  pub on_left : QueryReads (is_wanted left) plan.left
  pub on_right : (query : QueryPlan) → plan.right ≡ Some query → QueryReads (is_wanted right) query

-- ---- columns

-- whether the source is one of the table, and its column is at one of the places
abbrev pub names : List Bool → ℕ → ℕ → QuerySource → Bool
names places table column source = (source.table == table) && is_wanted places (source.first + column)

abbrev pub right_names : List Bool → Option QueryPlan → ℕ → ℕ → Bool
right_names places None table column = false
right_names places (Some query) table column = list_any (names places table column) query.sources

-- whether a source of one of the queries names the column of the table
abbrev pub plan_names : List Bool → List Bool → Plan → ℕ → ℕ → Bool
plan_names left right plan table column = list_any (names left table column) plan.left.sources || right_names right plan.right table column

-- each number that is named is wanted
abbrev pub AreNamed : (ℕ → Bool) → List Bool → Type 0
AreNamed named wanted = (number : ℕ) → named number ≡ true → is_wanted wanted number ≡ true
