-- The ordinary query over one list of rows for each of its sources, after SQL over bags. There is no NULL.
use Rattle.std.specs.Prelude.{ℕ, pos, Bool, true, false, List, [], ◌∷◌, length, map}
use Rattle.std.specs.List.{list_any}
use Rattle.tq_base.specs.declared.value.Value.{Value}
use Rattle.tq_base.specs.Contents.{Int}
use Rattle.tq_base.specs.RowValues.{value_at}
use Rattle.tq_condition.specs.Ordinary.{product_of, selection}
use Rattle.tq_agg.specs.Grouping.{Row, first_row, grouped_by, sum_at}
use Rattle.tq_plan.specs.declared.plans.Output.{Output}
use Rattle.tq_plan.specs.declared.plans.Output.TheVariants.{Column, Count, Sum}
use Rattle.tq_plan.specs.declared.plans.QueryPlan.{QueryPlan}
use Rattle.tq_plan.specs.ValidPlans.{is_aggregate}

-- ---- groups

abbrev pub alone_or_together : Bool → List Row → List (List Row)
alone_or_together true rows = rows ∷ []
alone_or_together false rows = map (λ row. row ∷ []) rows

-- each row of an answer is made of a group of rows: those of one key under GROUP BY; without it, all rows together if
-- they are counted, else each row alone
abbrev pub groups : List ℕ → List Output → List Row → List (List Row)
groups [] outputs rows = alone_or_together (list_any is_aggregate outputs) rows
groups (first ∷ more) outputs rows = grouped_by (first ∷ more) rows

-- an item of the row that a group makes
abbrev pub output_value : List Row → Output → Value
output_value group (Column place) = value_at (first_row group) place
output_value group Count = Int (pos (length group))
output_value group (Sum place) = Int (sum_at place group)

-- the rows of the query: the sources' product, those that pass the condition, their groups, their items
abbrev pub ordinary : QueryPlan → List (List Row) → List Row
ordinary query lists =
    map (λ group. map (output_value group) query.outputs) (groups query.group query.outputs (selection query.test (product_of lists)))
