-- Which columns a plan names, and that its answer depends on these alone. This project's own.
use Rattle.std.specs.Prelude.{◌≡◌, ◌≢◌, ℕ, ◌+◌, ◌<◌, Bool, true, All, List, [], Some, map}
use Rattle.tq_base.specs.declared.catalogue.Catalogue.{Catalogue}
use Rattle.tq_base.specs.declared.fragment.Fragment.{Fragment}
use Rattle.tq_event.specs.Projection.{is_wanted, projected_row, projected_values, wanted_of}
use Rattle.tq_event.specs.Tables.{rows_in}
use Rattle.tq_base.specs.RowValues.{value_at}
use Rattle.tq_condition.specs.Ordinary.{admits}
use Rattle.tq_agg.specs.Grouping.{Row}
use Rattle.tq_plan.specs.declared.plans.Output.{Output}
use Rattle.tq_plan.specs.declared.plans.Output.TheVariants.{Column, Count, Sum}
use Rattle.tq_plan.specs.declared.plans.Plan.{Plan}
use Rattle.tq_plan.specs.declared.plans.QueryPlan.{QueryPlan}
use Rattle.tq_plan.specs.declared.plans.QuerySource.{QuerySource}
use Rattle.tq_plan.specs.ValidPlans.{AreQueriesOver}
use Rattle.tq_table.specs.declared.table.Table.{Table}
use Rattle.tq_exec.specs.Answers.{in_tables, times_at, IsTablesAnswer, ValidRows}
use Rattle.tq_exec.specs.Fitting.{AreAllFitting, AreFitting}

-- ---- places that a query reads

-- both rows have the same value at each of these places
abbrev pub AgreeAt : (ℕ → Bool) → Row → Row → Type 0
AgreeAt places row other = (place : ℕ) → places place ≡ true → value_at row place ≡ value_at other place

-- the item is made of the values at these places alone
abbrev pub IsMadeOf : (ℕ → Bool) → Output → Type 0
IsMadeOf places (Column place) = places place ≡ true
IsMadeOf places Count = Unit {0}
IsMadeOf places (Sum place) = places place ≡ true

-- the query reads no other places: its condition, its groups and its items
pub record QueryReads (places : ℕ → Bool) (query : QueryPlan) : Type 0 where
  pub test : (row other : Row) → AgreeAt places row other → admits query.test row ≡ admits query.test other
  pub group : All (λ place. places place ≡ true) query.group
  pub items : All (IsMadeOf places) query.outputs

-- ---- columns that are wanted

-- the columns of the source that are at these places are wanted
abbrev pub Wants : List Bool → (ℕ → Bool) → QuerySource → Type 0
Wants wanted places source = (column : ℕ) → column < source.width → places (source.first + column) ≡ true → is_wanted wanted column ≡ true

-- for each source, the columns that the query reads are wanted
pub record Serves (wanted : List (List Bool)) (query : QueryPlan) : Type 0 where
  pub places : ℕ → Bool
  pub required : QueryReads places query
  pub wants : All (λ (source : QuerySource). Wants (wanted_of wanted source.table) places source) query.sources

-- the same for both queries of the plan
abbrev pub Serve : List (List Bool) → Plan → Type 0
Serve wanted plan = Serves wanted plan.left × ((query : QueryPlan) → plan.right ≡ Some query → Serves wanted query)

-- ---- rows of which only wanted values are kept

-- the valid rows, with only the wanted values
abbrev pub projected_in : List (List Bool) → ValidRows → ValidRows
projected_in wanted valid = λ table t. map (projected_values (wanted_of wanted table)) (valid table t)

-- tables of rows, with only the wanted values
abbrev pub AreProjectedLists : List (List Bool) → List (List Fragment) → List (List Fragment) → Type 0
AreProjectedLists wanted tables kept = (table : ℕ) → rows_in kept table ≡ map (projected_row (wanted_of wanted table)) (rows_in tables table)

-- ---- laws

-- if all columns that a plan names are wanted, the values of the others do not change its answer
abbrev pub RequiredColumnsSuffice : Type 0
RequiredColumnsSuffice = (wanted : List (List Bool)) (catalogue : Catalogue) (valid : ValidRows) (plan : Plan) → AreFitting catalogue valid → AreQueriesOver catalogue plan → Serve wanted plan
    → (v : Row) (t : ℕ) → times_at (projected_in wanted valid) plan v t ≡ times_at valid plan v t

-- if there is no list of wanted columns for any table, every value is kept
abbrev pub AllColumnsSuffice : Type 0
AllColumnsSuffice = (valid : ValidRows) (plan : Plan) (v : Row) (t : ℕ) → times_at (projected_in [] valid) plan v t ≡ times_at valid plan v t

-- rows that fit the tables of a catalogue still fit them with only the wanted values
abbrev pub ProjectedRowsFit : Type 0
ProjectedRowsFit = (wanted : List (List Bool)) (catalogue : Catalogue) (valid : ValidRows) → AreFitting catalogue valid → AreFitting catalogue (projected_in wanted valid)

-- the same for tables of rows
abbrev pub ProjectedTablesFit : Type 0
ProjectedTablesFit = (wanted : List (List Bool)) (catalogue : Catalogue) (tables kept : List (List Fragment)) → AreProjectedLists wanted tables kept → AreAllFitting catalogue tables → AreAllFitting catalogue kept

-- an answer over tables with only the wanted values is one over the whole tables, if all columns that the plan names
-- are wanted, or there is no list of wanted columns for any table
abbrev pub ProjectedTablesAnswer : Type 0
ProjectedTablesAnswer = (wanted : List (List Bool)) (catalogue : Catalogue) (tables kept : List (List Fragment)) (plan : Plan) (table : Table) → AreProjectedLists wanted tables kept → AreAllFitting catalogue tables → AreQueriesOver catalogue plan → (wanted ≢ [] → Serve wanted plan)
    → IsTablesAnswer kept plan table → IsTablesAnswer tables plan table

-- the rows that are valid in tables with only the wanted values are those of the whole tables, with only these values
abbrev pub ProjectedTablesHold : Type 0
ProjectedTablesHold = (wanted : List (List Bool)) (tables kept : List (List Fragment)) → AreProjectedLists wanted tables kept → (table t : ℕ) → in_tables kept table t ≡ projected_in wanted (in_tables tables) table t
