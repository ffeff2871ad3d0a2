-- What is valid in the plan of a statement: its items, and the places of its sources.
use Rattle.std.specs.Prelude.{◌≡◌, ℕ, ◌+◌, ◌≤◌, Bool, true, false, not, All, IsSomeAnd, List, ◌∷◌, [], Ok, Some, length, slice_get}
use Rattle.std.specs.List.{list_all, list_any}
use Rattle.std.proofs.Props.{props}
use Rattle.tq_base.specs.declared.catalogue.Catalogue.{Catalogue}
use Rattle.tq_base.specs.declared.catalogue.Schema.{Schema}
use Rattle.tq_base.specs.Numbers.{IsDated}
use Rattle.tq_base.specs.declared.dates.TheConstants.{LAST_DAY}
use Rattle.tq_base.specs.declared.form.Form.{Form}
use Rattle.tq_base.specs.declared.form.Form.TheVariants.{Dates}
use Rattle.tq_sql.specs.declared.statement.Statement.{Statement}
use Rattle.tq_plan.specs.declared.plans.Output.{Output}
use Rattle.tq_plan.specs.declared.plans.Output.TheVariants.{Column, Count, Sum}
use Rattle.tq_plan.specs.declared.plans.Plan.{Plan}
use Rattle.tq_plan.specs.declared.plans.QueryPlan.{QueryPlan}
use Rattle.tq_plan.specs.declared.plans.QuerySource.{QuerySource}
use Rattle.tq_plan.specs.Plans.{is_groupable, plan_of}
use Rattle.tq_plan.specs.Scope.{is_numbered}

-- the plan is that of a statement, whose window is written in some form
pub record IsPlan (plan : Plan) : Type 0 where
  pub form : Form
  pub catalogue : Catalogue
  pub statement : Statement
  pub planned : plan_of form catalogue statement ≡ Ok plan

-- the plan is that of a statement over this catalogue
pub record IsPlanOver (catalogue : Catalogue) (plan : Plan) : Type 0 where
  pub form : Form
  pub statement : Statement
  pub planned : plan_of form catalogue statement ≡ Ok plan

-- whether the item is a count or a sum
abbrev pub is_aggregate : Output → Bool
is_aggregate (Column place) = false
is_aggregate Count = true
is_aggregate (Sum place) = true

abbrev pub no_group : List ℕ → Bool
no_group [] = true
no_group (first ∷ more) = false

-- whether the item is valid: a column if it is in GROUP BY, or if nothing is grouped, counted or summed; a sum if there
-- are groups
abbrev pub is_valid_item : Bool → List ℕ → Output → Bool
is_valid_item counted group (Column place) = is_groupable counted group place
is_valid_item counted group Count = true
is_valid_item counted group (Sum place) = not (no_group group)

abbrev pub are_valid_items : QueryPlan → Bool
are_valid_items query = list_all (is_valid_item (list_any is_aggregate query.outputs) query.group) query.outputs

-- the sources are contiguous from the place on: each begins where the one before it ends
abbrev pub AreContiguousFrom : ℕ → List QuerySource → Type 0
AreContiguousFrom place [] = Unit {0}
AreContiguousFrom place (source ∷ sources) = (source.first ≡ place) × AreContiguousFrom (place + source.width) sources

-- the source has as many columns as its table has in the catalogue, and is numbered if the first of them holds numbers
abbrev pub HasColumns : Catalogue → QuerySource → Type 0
HasColumns catalogue source =
    IsSomeAnd (slice_get catalogue.tables source.table) (λ (s : Schema). (source.width ≡ length s.columns) × (source.numbered ≡ is_numbered s.columns))

-- the items of the query are valid; its sources are contiguous and have the columns of their tables
pub record IsQueryOver (catalogue : Catalogue) (query : QueryPlan) : Type 0 where
  pub items : are_valid_items query ≡ true
  pub sources : AreContiguousFrom 0 query.sources
  pub columns : All (HasColumns catalogue) query.sources

-- both queries of the plan are queries over the catalogue
abbrev pub AreQueriesOver : Catalogue → Plan → Type 0
AreQueriesOver catalogue plan = IsQueryOver catalogue plan.left × ((query : QueryPlan) → plan.right ≡ Some query → IsQueryOver catalogue query)

-- ---- laws

-- the items of both queries of a statement's plan are valid
abbrev pub PlansAreValid : Type 0
PlansAreValid = (plan : Plan) → IsPlan plan → (are_valid_items plan.left ≡ true) × ((query : QueryPlan) → plan.right ≡ Some query → are_valid_items query ≡ true)

-- the sources of both queries of a statement's plan are contiguous from place 0 on
abbrev pub SourcesAreContiguous : Type 0
SourcesAreContiguous = (plan : Plan) → IsPlan plan → AreContiguousFrom 0 plan.left.sources × ((query : QueryPlan) → plan.right ≡ Some query → AreContiguousFrom 0 query.sources)

-- a window that is written in dates begins at a day that has a date, and ends at one or never
abbrev pub WindowsAreDated : Type 0
WindowsAreDated = (catalogue : Catalogue) (statement : Statement) (plan : Plan) → plan_of Dates catalogue statement ≡ Ok plan → (plan.window.start ≤ LAST_DAY) × IsDated plan.window.end

-- both queries of a statement's plan over a catalogue are queries over it
abbrev pub QueriesAreValid : Type 0
QueriesAreValid = (catalogue : Catalogue) (plan : Plan) → IsPlanOver catalogue plan → AreQueriesOver catalogue plan

-- ---- two proofs that a query fits a catalogue are equal

sources_prop : (place : ℕ) (sources : List QuerySource) → IsProp (AreContiguousFrom place sources)
sources_prop place [] = hlevel props
sources_prop place (source ∷ sources) =
    let rest = sources_prop (place + source.width) sources in
    hlevel (props, rest)

query_prop : (catalogue : Catalogue) (query : QueryPlan) → IsProp (IsQueryOver catalogue query)
query_prop catalogue query =
    let sources = sources_prop 0 query.sources in
    hlevel (props, sources)

pub queries_prop : (catalogue : Catalogue) (plan : Plan) → IsProp (AreQueriesOver catalogue plan)
queries_prop catalogue plan = hlevel (props, query_prop)
