-- The plan of a statement over a catalogue, or its first fault: of the window, of the left query, of the right one, of
-- both together. In a query the order is: sources, condition, groups, items. After SQL.
use Rattle.std.specs.Prelude.{ℕ, Bool, true, false, not, ◌&&◌, ◌==◌, if◌then◌else◌, List, [], ◌∷◌, ◌++◌, map, Option, Some, None, Result, Ok, Err, codes}
use Rattle.std.specs.List.{list_any}
use Rattle.tq_base.specs.declared.catalogue.Kind.{Kind}
use Rattle.tq_base.specs.declared.form.Form.{Form}
use Rattle.tq_base.specs.declared.catalogue.Kind.TheVariants as kind
use Rattle.tq_base.specs.declared.catalogue.Catalogue.{Catalogue}
use Rattle.tq_base.specs.Results.{and_then}
use Rattle.tq_sql.specs.declared.statement.ColumnRef.{ColumnRef}
use Rattle.tq_sql.specs.declared.statement.What.{What}
use Rattle.tq_sql.specs.declared.statement.What.TheVariants as what
use Rattle.tq_sql.specs.declared.statement.Item.{Item}
use Rattle.tq_sql.specs.declared.statement.Query.{Query}
use Rattle.tq_sql.specs.declared.statement.Statement.{Statement}
use Rattle.tq_plan.specs.declared.fault.PlanFault.{PlanFault}
use Rattle.tq_plan.specs.declared.fault.PlanFault.TheVariants.{NotGrouped, SumNeedsGroup, SumOfText, UnequalColumns}
use Rattle.tq_plan.specs.declared.plans.Output.{Output}
use Rattle.tq_plan.specs.declared.plans.Output.TheVariants as output
use Rattle.tq_plan.specs.declared.plans.Plan.{Plan}
use Rattle.tq_plan.specs.declared.plans.QueryPlan.{QueryPlan}
use Rattle.tq_plan.specs.declared.plans.QuerySource.{QuerySource}
use Rattle.tq_plan.specs.Scope.{Field, alias_or_name, no_sources, resolved, sources_after}
use Rattle.tq_plan.specs.Conditions.{same_kind, where_of}
use Rattle.tq_plan.specs.Windows.{window_plan}

-- ---- groups and items

-- these places, and then those of the columns after GROUP BY
abbrev pub group_after : List Field → List ℕ → List ColumnRef → Result (List ℕ) PlanFault
group_after fields places [] = Ok places
group_after fields places (column ∷ columns) = and_then (resolved fields column) (λ meaning. group_after fields (places ++ meaning.0 ∷ []) columns)

abbrev pub is_aggregate : What → Bool
is_aggregate (what.Column column) = false
is_aggregate what.Count = true
is_aggregate (what.Sum column) = true

-- whether some item is a count or a sum
abbrev pub has_aggregate : List Item → Bool
has_aggregate items = list_any (λ (item : Item). is_aggregate item.what) items

-- a column can be selected by itself if it is in GROUP BY, or if nothing is grouped, counted or summed
abbrev pub is_groupable : Bool → List ℕ → ℕ → Bool
is_groupable counted [] place = not counted
is_groupable counted (first ∷ more) place = list_any (λ key. key == place) (first ∷ more)

abbrev pub column_output : Bool → List ℕ → ℕ × Kind → Result (Output × Kind) PlanFault
column_output counted group meaning =
    if is_groupable counted group meaning.0 then Ok (output.Column meaning.0, meaning.1) else Err NotGrouped

abbrev pub sum_output : ℕ → Kind → Result (Output × Kind) PlanFault
sum_output place kind.Int = Ok (output.Sum place, kind.Int)
sum_output place kind.Text = Err SumOfText

abbrev pub grouped_sum : List Field → List ℕ → ColumnRef → Result (Output × Kind) PlanFault
grouped_sum fields [] column = Err SumNeedsGroup
grouped_sum fields (first ∷ more) column = and_then (resolved fields column) (λ meaning. sum_output meaning.0 meaning.1)

-- the planned item, and its kind
abbrev pub output_of : List Field → Bool → List ℕ → What → Result (Output × Kind) PlanFault
output_of fields counted group (what.Column column) = and_then (resolved fields column) (column_output counted group)
output_of fields counted group what.Count = Ok (output.Count, kind.Int)
output_of fields counted group (what.Sum column) = grouped_sum fields group column

-- these items, and then the others
abbrev pub outputs_after : List Field → Bool → List ℕ → List (Output × Kind) → List Item → Result (List (Output × Kind)) PlanFault
outputs_after fields counted group outputs [] = Ok outputs
outputs_after fields counted group outputs (item ∷ items) =
    and_then (output_of fields counted group item.what) (λ one. outputs_after fields counted group (outputs ++ one ∷ []) items)

-- ---- queries and statements

-- the tables of sources, by their numbers
abbrev pub tables_in : List QuerySource → List ℕ
tables_in sources = map (λ (s : QuerySource). s.table) sources

abbrev pub tables_of : QueryPlan → List ℕ
tables_of query = tables_in query.sources

-- the plan of a query, and the kinds of its items
abbrev pub query_of : Catalogue → Query → Result (QueryPlan × List Kind) PlanFault
query_of catalogue query =
    and_then (sources_after catalogue no_sources query.sources) (λ sources.
    and_then (where_of sources.fields query.cond) (λ test.
    and_then (group_after sources.fields [] query.group) (λ group.
    and_then (outputs_after sources.fields (has_aggregate query.items) group [] query.items) (λ outputs.
    Ok (record { sources = sources.sources; test = test; group = group; outputs = map (λ one. one.0) outputs }, map (λ one. one.1) outputs)))))

abbrev pub same_kinds : List Kind → List Kind → Bool
same_kinds [] [] = true
same_kinds [] (k ∷ ks) = false
same_kinds (k ∷ ks) [] = false
same_kinds (j ∷ js) (k ∷ ks) = same_kind j k && same_kinds js ks

abbrev pub with_kinds : List Kind → QueryPlan × List Kind → Result (Option QueryPlan) PlanFault
with_kinds kinds right = if same_kinds kinds right.1 then Ok (Some right.0) else Err UnequalColumns

-- the plan of the query after EXCEPT ALL, if there is one: its items must have these kinds
abbrev pub right_of : Catalogue → List Kind → Option Query → Result (Option QueryPlan) PlanFault
right_of catalogue kinds None = Ok None
right_of catalogue kinds (Some query) = and_then (query_of catalogue query) (with_kinds kinds)

abbrev pub what_name : What → List ℕ
what_name (what.Column column) = column.column
what_name what.Count = codes "count"
what_name (what.Sum column) = codes "sum"

-- the names of the output columns: the name after AS, else the column's own, `count` or `sum`
abbrev pub column_names : List Item → List (List ℕ)
column_names items = map (λ (item : Item). alias_or_name (what_name item.what) item.alias) items

-- the plan of a statement, or its first fault
abbrev pub plan_of : Form → Catalogue → Statement → Result Plan PlanFault
plan_of form catalogue statement =
    and_then (window_plan form statement.window) (λ window.
    and_then (query_of catalogue statement.left) (λ left.
    and_then (right_of catalogue left.1 statement.right) (λ right.
    Ok (record { window = window; columns = column_names statement.left.items; left = left.0; right = right }))))
