-- Rows to be grouped, in partitions by their first value. This project's own.
use Rattle.std.specs.Prelude.{◌≡◌, ◌<◌, ◌==◌, ℕ, All, List, false, filter, length, map, slice_index_or, true}
use Rattle.std.specs.Global.{Vec}
use Rattle.std.proofs.Props.{props}
use Rattle.tq_base.specs.declared.fragment.Fragment.{Fragment}
use Rattle.tq_base.specs.declared.period.Period.{Period}
use Rattle.tq_base.specs.Fragments.{at, occurrences}
use Rattle.tq_base.specs.RowLists.{RowList}
use Rattle.tq_base.specs.RowValues.{value_at}
use Rattle.tq_condition.specs.Ordinary.{HasInside, IsEmptyOutside}
use Rattle.tq_plan.specs.declared.plans.QueryPlan.{QueryPlan}
use Rattle.tq_plan.specs.ValidPlans.{are_valid_items, no_group}
use Rattle.tq_table.specs.Merging.{all_rows, AreOfWidth}
use Rattle.tq_exec.specs.AggregateParts.{group_columns, rows_of_values}
use Rattle.tq_exec.specs.OutputPlaces.{AreNumbers}
use Rattle.tq_exec.specs.Partitions.{partition_of}

-- the partition of the row, by its first value
abbrev pub first_partition : List ℕ → Fragment → ℕ
first_partition cuts row = partition_of cuts (value_at row.values 0)

-- the partitions of the rows of the list at the place
abbrev pub AreFirstIds : List ℕ → List RowList → ℕ → List ℕ → Type 0
AreFirstIds cuts lists place ids = (d : RowList) → ids ≡ map (first_partition cuts) (slice_index_or lists place d).items

-- the lists hold rows to be grouped by the query, with the partition of each row
pub record AreToGroup (query : QueryPlan) (cuts : List ℕ) (lists : List RowList) (ids : List (Vec ℕ)) : Type 0 where
  pub grouped : no_group query.group ≡ false
  pub stand : are_valid_items query ≡ true
  pub wide : All (AreOfWidth (length (group_columns query))) lists
  pub numbers : All (λ (row : Fragment). AreNumbers row.values) (all_rows lists)
  pub many : length ids ≡ length lists
  pub each : (place : ℕ) (d : Vec ℕ) → place < length lists → AreFirstIds cuts lists place (slice_index_or ids place d).items

-- the rows that the query makes of the rows of a partition, at each instant of the window, and none outside it
pub record IsGroupPartition (query : QueryPlan) (window : Period) (cuts : List ℕ) (rows : List Fragment) (number : ℕ) (made : RowList) : Type 0 where
  pub wide : AreOfWidth (length query.outputs) made
  pub inside : HasInside window made.items (λ t v. occurrences (rows_of_values query (at (filter (λ (row : Fragment). first_partition cuts row == number) rows) t)) v)
  pub outside : IsEmptyOutside window made.items

-- ---- rows are to be grouped in one way at most

pub to_group_prop : (query : QueryPlan) (cuts : List ℕ) (lists : List RowList) (ids : List (Vec ℕ)) → IsProp (AreToGroup query cuts lists ids)
to_group_prop query cuts lists ids = hlevel props
