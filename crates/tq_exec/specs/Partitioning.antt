-- Valid rows in partitions by a value of each row, and the answers over the partitions. This project's own.
use Rattle.std.specs.Prelude.{◌≡◌, ◌==◌, ℕ, IsTrue, Bool, true, false, if◌then◌else◌, filter, List, ◌∷◌, Option, Some, None, All}
use Rattle.std.specs.List.{list_any}
use Rattle.tq_base.specs.declared.catalogue.Catalogue.{Catalogue}
use Rattle.tq_base.specs.declared.value.Value.{Value}
use Rattle.tq_base.specs.RowValues.{value_at}
use Rattle.tq_base.specs.Fragments.{occurrences}
use Rattle.tq_condition.specs.Ordinary.{admits, product_of, selection}
use Rattle.tq_condition.specs.declared.condition.Test.{Test}
use Rattle.tq_agg.specs.Grouping.{Row}
use Rattle.tq_plan.specs.declared.plans.Output.{Output}
use Rattle.tq_plan.specs.declared.plans.Output.TheVariants.{Column}
use Rattle.tq_plan.specs.declared.plans.Plan.{Plan}
use Rattle.tq_plan.specs.declared.plans.QueryPlan.{QueryPlan}
use Rattle.tq_plan.specs.declared.plans.QuerySource.{QuerySource}
use Rattle.tq_plan.specs.Plans.{tables_of}
use Rattle.tq_plan.specs.ValidPlans.{AreQueriesOver, IsQueryOver, is_aggregate, no_group}
use Rattle.tq_exec.specs.Answers.{lists_at, times_at, ValidRows}
use Rattle.tq_exec.specs.Fitting.{AreFitting}
use Rattle.tq_exec.specs.Scan.{part_of}

-- the column by which each table is partitioned, if it is
abbrev pub Columns : Type 0
Columns = ℕ → Option ℕ

-- whether a row belongs to the partition with this number, by its value in the column; rows of other tables belong to each partition
abbrev pub goes_to : (Value → ℕ) → ℕ → Option ℕ → Row → Bool
goes_to partition_of number None row = true
goes_to partition_of number (Some column) row = partition_of (value_at row column) == number

-- the valid rows of a partition
abbrev pub in_partition : (Value → ℕ) → Columns → ℕ → ValidRows → ValidRows
in_partition partition_of columns number valid = λ table t. filter (goes_to partition_of number (columns table)) (valid table t)

abbrev pub is_partitioned : Option ℕ → Bool
is_partitioned None = false
is_partitioned (Some column) = true

-- in each row that passes, the source's column is equal to the place
abbrev pub HasAt : Option Test → ℕ → QuerySource → Option ℕ → Type 0
HasAt test place source None = Unit {0}
HasAt test place source (Some column) = (row : Row) → IsTrue (admits test row) → value_at (part_of source row) column ≡ value_at row place

-- the query's first output is a column that in each row that passes has the value by which the sources are partitioned, and at
-- least one source is partitioned
pub record IsPartitionedBy (columns : Columns) (query : QueryPlan) : Type 0 where
  pub place : ℕ
  pub items : List Output
  pub first : query.outputs ≡ Column place ∷ items
  pub each : All (λ (source : QuerySource). HasAt query.test place source (columns source.table)) query.sources
  pub some : list_any (λ (source : QuerySource). is_partitioned (columns source.table)) query.sources ≡ true

-- both queries of the plan
abbrev pub ArePartitionedBy : Columns → Plan → Type 0
ArePartitionedBy columns plan = IsPartitionedBy columns plan.left × ((query : QueryPlan) → plan.right ≡ Some query → IsPartitionedBy columns query)

-- over a partition the plan has exactly the rows of its answer whose first value belongs to the partition
abbrev pub PartitionsHaveAnswers : Type 0
PartitionsHaveAnswers = (partition_of : Value → ℕ) (columns : Columns) (number : ℕ) (catalogue : Catalogue) (valid : ValidRows) (plan : Plan) → AreFitting catalogue valid → AreQueriesOver catalogue plan → ArePartitionedBy columns plan
    → (v : Row) (t : ℕ) → times_at (in_partition partition_of columns number valid) plan v t ≡ (if partition_of (value_at v 0) == number then times_at valid plan v t else 0)

-- each row that passes has at one place the value by which the sources are partitioned, and at least one source is
pub record AreLinkedBy (columns : Columns) (query : QueryPlan) : Type 0 where
  pub place : ℕ
  pub each : All (λ (source : QuerySource). HasAt query.test place source (columns source.table)) query.sources
  pub some : list_any (λ (source : QuerySource). is_partitioned (columns source.table)) query.sources ≡ true

-- the plan has no EXCEPT ALL, and groups, counts and sums nothing
pub record OnlyJoins (plan : Plan) : Type 0 where
  pub alone : plan.right ≡ None
  pub ungrouped : no_group plan.left.group ≡ true
  pub uncounted : list_any is_aggregate plan.left.outputs ≡ false

-- over a partition exactly those rows pass that pass over the whole tables and whose value at the place belongs to the partition
abbrev pub PartitionsHaveRows : Type 0
PartitionsHaveRows = (partition_of : Value → ℕ) (columns : Columns) (number : ℕ) (catalogue : Catalogue) (valid : ValidRows) (query : QueryPlan) → AreFitting catalogue valid → IsQueryOver catalogue query → (linked : AreLinkedBy columns query)
    → (v : Row) (t : ℕ) → occurrences (selection query.test (product_of (lists_at (in_partition partition_of columns number valid) t (tables_of query)))) v
    ≡ occurrences (filter (λ row. partition_of (value_at row linked.place) == number) (selection query.test (product_of (lists_at valid t (tables_of query))))) v
