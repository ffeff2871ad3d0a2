-- The values that a query aggregates, and the groups that are made of them. This project's own.
use Rattle.std.specs.Prelude.{◌≡◌, ◌+◌, ◌==◌, ℕ, Bool, false, true, List, [], ◌∷◌, ◌++◌, filter, is_some, length, map}
use Rattle.std.specs.List.{range_with_len}
use Rattle.tq_base.specs.declared.value.Value.{Value}
use Rattle.tq_base.specs.RowValues.{value_at}
use Rattle.tq_condition.specs.Ordinary.{product_of, projection, selection}
use Rattle.tq_agg.specs.Grouping.{Row, first_row, group_row, grouped_by}
use Rattle.tq_plan.specs.declared.plans.Output.{Output}
use Rattle.tq_plan.specs.declared.plans.Output.TheVariants.{Column, Count, Sum}
use Rattle.tq_plan.specs.declared.plans.QueryPlan.{QueryPlan}
use Rattle.tq_plan.specs.Plans.{tables_of}
use Rattle.tq_plan.specs.ValidPlans.{no_group}
use Rattle.tq_exec.specs.OutputPlaces.{item_places, summed_places}

-- the columns of these values: those after GROUP BY, then the summed ones
abbrev pub group_columns : QueryPlan → List ℕ
group_columns query = query.group ++ summed_places query.outputs

-- these values of each row that passes
abbrev pub aggregate_input : QueryPlan → List (List Row) → List Row
aggregate_input query lists = map (projection (group_columns query)) (selection query.test (product_of lists))

-- the groups of rows of these values, by the first ones, which are those after GROUP BY
abbrev pub groups_of_values : QueryPlan → List Row → List (List Row)
groups_of_values query rows = grouped_by (range_with_len 0 (length query.group)) rows

-- the query's outputs for a group of rows of these values
abbrev pub items_of_values : QueryPlan → List Row → Row
items_of_values query group =
    let keys = range_with_len 0 (length query.group) in
    let sums = range_with_len (length query.group) (length (summed_places query.outputs)) in
    projection (item_places query.group (length query.group + 1) query.outputs) (group_row keys sums group)

-- the rows that the query makes of rows of these values, one of each group
abbrev pub rows_of_values : QueryPlan → List Row → List Row
rows_of_values query rows = map (items_of_values query) (groups_of_values query rows)

-- the rows whose first value belongs to a partition make exactly the rows of the groups of this partition
abbrev pub PartitionsHaveGroups : Type 0
PartitionsHaveGroups = (partition_of : Value → ℕ) (number : ℕ) (query : QueryPlan) → no_group query.group ≡ false → (rows : List Row)
    → rows_of_values query (filter (λ row. partition_of (value_at row 0) == number) rows)
    ≡ map (items_of_values query) (filter (λ group. partition_of (value_at (first_row group) 0) == number) (groups_of_values query rows))

-- ---- one table

-- whether the output is a sum
abbrev pub is_sum : Output → Bool
is_sum (Column place) = false
is_sum Count = false
is_sum (Sum place) = true

-- the query only counts the rows of one table by one column: it has one source, no condition, one column after GROUP BY, and no sums
pub record CountsOne (query : QueryPlan) (table column : ℕ) : Type 0 where
  pub tables : tables_of query ≡ table ∷ []
  pub test : is_some query.test ≡ false
  pub group : query.group ≡ column ∷ []
  pub sums : summed_places query.outputs ≡ []
