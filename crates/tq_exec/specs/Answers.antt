-- The answer of a plan over what is valid in each table at each instant. After the SQL/Temporal valid-time
-- proposals: at each instant of the window the rows are those of the ordinary statement over the rows then
-- valid, duplicates counted.
use Rattle.std.specs.Prelude.{◌≡◌, ℕ, ◌-◌, ◌≤◌, if◌then◌else◌, List, [], ◌++◌, length, map, All, Option, Some, None, Ok}
use Rattle.tq_base.specs.declared.catalogue.Catalogue.{Catalogue}
use Rattle.tq_base.specs.declared.form.Form.{Form}
use Rattle.tq_base.specs.declared.fragment.Fragment.{Fragment}
use Rattle.tq_base.specs.declared.period.Period.{Period}
use Rattle.tq_base.specs.Fragments.{at, occurrences}
use Rattle.tq_base.specs.Layers.{IsLayers}
use Rattle.tq_base.specs.Periods.{holds}
use Rattle.tq_event.specs.declared.event.Event.{Event}
use Rattle.tq_event.specs.History.{valid_at}
use Rattle.tq_event.specs.Tables.{rows_in}
use Rattle.tq_sql.specs.declared.statement.Statement.{Statement}
use Rattle.tq_table.specs.declared.table.Table.{Table}
use Rattle.tq_plan.specs.declared.plans.Plan.{Plan}
use Rattle.tq_plan.specs.declared.plans.QueryPlan.{QueryPlan}
use Rattle.tq_agg.specs.Grouping.{Row}
use Rattle.tq_exec.specs.Ordinary.{ordinary}
use Rattle.tq_plan.specs.Plans.{plan_of, tables_of}
use Rattle.tq_plan.specs.ValidPlans.{IsPlan}

-- which rows are valid in each table, by its number, at each instant
abbrev pub ValidRows : Type 0
ValidRows = ℕ → ℕ → List Row

-- the rows that are valid by the first n events of a history
abbrev pub as_of : List Event → ℕ → ValidRows
as_of history n = λ table t. valid_at history n table t

-- the valid rows of tables of rows, each row with its period
abbrev pub in_tables : List (List Fragment) → ValidRows
in_tables tables = λ table t. at (rows_in tables table) t

-- the rows valid at the instant, source by source
abbrev pub lists_at : ValidRows → ℕ → List ℕ → List (List Row)
lists_at valid t tables = map (λ table. valid table t) tables

-- how often the row is in the query's ordinary answer over the rows valid at the instant
abbrev pub times_in : ValidRows → QueryPlan → Row → ℕ → ℕ
times_in valid query v t = occurrences (ordinary query (lists_at valid t (tables_of query))) v

abbrev pub times_in_right : ValidRows → Option QueryPlan → Row → ℕ → ℕ
times_in_right valid None v t = 0
times_in_right valid (Some query) v t = times_in valid query v t

-- how often the row is in the ordinary answer of the statement: its times on the left, less its times on the right
-- (EXCEPT ALL)
abbrev pub times_by : ValidRows → Plan → Row → ℕ → ℕ
times_by valid plan v t = times_in valid plan.left v t - times_in_right valid plan.right v t

-- the same at instants of a period, and 0 at others
abbrev pub times_within : ValidRows → Plan → Period → Row → ℕ → ℕ
times_within valid plan period v t = if holds period t then times_by valid plan v t else 0

-- the same in the statement's window
abbrev pub times_at : ValidRows → Plan → Row → ℕ → ℕ
times_at valid plan v t = times_within valid plan plan.window v t

-- the table has the plan's columns, and is the one ordered, coalesced table of these rows at each instant
pub record IsAnswerOver (valid : ValidRows) (plan : Plan) (table : Table) : Type 0 where
  pub columns : table.columns ≡ plan.columns
  pub layers : IsLayers (times_at valid plan) table.rows

-- the answer of a plan as of the first n events of a history
abbrev pub IsPlanAnswer : List Event → ℕ → Plan → Table → Type 0
IsPlanAnswer history n plan table = IsAnswerOver (as_of history n) plan table

-- the answer of a plan over tables of rows
abbrev pub IsTablesAnswer : List (List Fragment) → Plan → Table → Type 0
IsTablesAnswer tables plan table = IsAnswerOver (in_tables tables) plan table

-- the answer of a statement, whose window is written in the form, over a catalogue: that of its plan
pub record IsAnswer (form : Form) (catalogue : Catalogue) (statement : Statement) (history : List Event) (n : ℕ) (table : Table) : Type 0 where
  pub plan : Plan
  pub planned : plan_of form catalogue statement ≡ Ok plan
  pub is_answer : IsPlanAnswer history n plan table

-- the tables that a plan reads
abbrev pub right_tables : Option QueryPlan → List ℕ
right_tables None = []
right_tables (Some query) = tables_of query

abbrev pub tables_read : Plan → List ℕ
tables_read plan = tables_of plan.left ++ right_tables plan.right

-- ---- laws

-- an answer depends on how often each row is valid in the tables that the plan reads, and on nothing else
abbrev pub AnswersAgree : Type 0
AnswersAgree = (valid other : ValidRows) (plan : Plan) (table : Table) → IsPlan plan
    → All (λ number. (t : ℕ) (v : Row) → occurrences (valid number t) v ≡ occurrences (other number t) v) (tables_read plan)
    → IsAnswerOver valid plan table → IsAnswerOver other plan table

-- there is one answer at most
abbrev pub AnswersAreUnique : Type 0
AnswersAreUnique = (form : Form) (catalogue : Catalogue) (statement : Statement) (history : List Event) (n : ℕ) (a b : Table)
    → IsAnswer form catalogue statement history n a → IsAnswer form catalogue statement history n b → a ≡ b

-- there is one: each plan has an answer over every history, as of every count of its events
abbrev pub AnswersExist : Type 0
AnswersExist = (history : List Event) (n : ℕ) (plan : Plan) → (table : Table) × IsPlanAnswer history n plan table

-- an answer as of the first n events stays one while the history grows
abbrev pub AnswersStay : Type 0
AnswersStay = (form : Form) (catalogue : Catalogue) (statement : Statement) (history more : List Event) (n : ℕ) (table : Table)
    → n ≤ length history → IsAnswer form catalogue statement history n table → IsAnswer form catalogue statement (history ++ more) n table
