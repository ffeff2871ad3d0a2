-- Plans over tables that are divided into parts. This project's own.
use Rattle.std.specs.Prelude.{◌≡◌, ◌≤◌, ◌<◌, ◌==◌, ◌++◌, ℕ, Bool, false, true, List, filter, length, map, slice_index_or}
use Rattle.std.specs.List.{list_all, list_any}
use Rattle.tq_base.specs.declared.catalogue.Catalogue.{Catalogue}
use Rattle.tq_base.specs.declared.fragment.Fragment.{Fragment}
use Rattle.tq_base.specs.declared.value.Value.{Value}
use Rattle.tq_base.specs.Fragments.{copies, occurrences}
use Rattle.tq_base.specs.Layers.{IsLayers}
use Rattle.tq_base.specs.Ranges.{one_after_other}
use Rattle.tq_event.specs.Tables.{rows_in}
use Rattle.tq_agg.specs.Grouping.{Row}
use Rattle.tq_plan.specs.declared.plans.Output.{Output}
use Rattle.tq_plan.specs.declared.plans.Output.TheVariants.{Column, Count, Sum}
use Rattle.tq_plan.specs.declared.plans.Plan.{Plan}
use Rattle.tq_plan.specs.declared.plans.QueryPlan.{QueryPlan}
use Rattle.tq_plan.specs.ValidPlans.{AreQueriesOver, is_aggregate}
use Rattle.tq_table.specs.declared.table.Table.{Table}
use Rattle.tq_exec.specs.Answers.{in_tables, times_at, IsTablesAnswer, ValidRows}
use Rattle.tq_exec.specs.Fitting.{AreFitting}
use Rattle.tq_exec.specs.Partitioning.{Columns, goes_to, in_partition}
use Rattle.tq_exec.specs.Parts.{AddUp, AreParts}
use Rattle.tq_split.specs.declared.combine.Combine.{Combine}
use Rattle.tq_split.specs.declared.combine.Combine.TheVariants.{Add, Merge}
use Rattle.tq_split.specs.Adding.{added_rows, combined}

-- if the tables are divided by these columns, the answers over the parts add up to that over the whole tables, to whichever part
-- each value belongs: in all parts together each row is valid as often, at each instant
abbrev pub AnswersAddUp : Plan → Columns → Type 0
AnswersAddUp plan columns = (part_of : Value → ℕ) (count : ℕ) (catalogue : Catalogue) (valid : ValidRows) → ((value : Value) → part_of value < count)
    → AreFitting catalogue valid → AreQueriesOver catalogue plan
    → AreParts count (λ i. times_at (in_partition part_of columns i valid) plan) (times_at valid plan)

-- if the tables are divided by these columns, the counts and sums of the answers over the parts add up to those of the answer
-- over the whole tables, to whichever part each value belongs: whichever rows are those of the answers over all parts at an
-- instant, each row of the answer over the whole tables is the one that adds those of its group. The first `groups` columns name
-- the group
abbrev pub AggregatesAddUp : Plan → Columns → ℕ → Type 0
AggregatesAddUp plan columns groups = (part_of : Value → ℕ) (count : ℕ) (catalogue : Catalogue) (valid : ValidRows) → ((value : Value) → part_of value < count)
    → AreFitting catalogue valid → AreQueriesOver catalogue plan
    → (t : ℕ) (rows : List Row) → ((v : Row) → AddUp count (λ i. times_at (in_partition part_of columns i valid) plan v t) (occurrences rows v))
    → (v : Row) → occurrences (added_rows groups (length plan.left.outputs) rows) v ≡ times_at valid plan v t

-- if the tables are divided by these columns, the answers over the parts make in this way the answer over the whole tables
abbrev pub AnswersCombine : Plan → Columns → Combine → Type 0
AnswersCombine plan columns Merge = AnswersAddUp plan columns
AnswersCombine plan columns (Add groups) = AggregatesAddUp plan columns groups

-- whether the output is the column at the place
abbrev pub is_column : ℕ → Output → Bool
is_column place (Column shown) = shown == place
is_column place Count = false
is_column place (Sum summed) = false

-- the outputs of the query are this many columns, and then counts and sums; the columns have all places of GROUP BY
pub record ShowsGroups (query : QueryPlan) (groups : ℕ) : Type 0 where
  pub places : List ℕ
  pub sums : List Output
  pub outputs : query.outputs ≡ map Column places ++ sums
  pub many : length places ≡ groups
  pub some : 1 ≤ length sums
  pub counted : list_all is_aggregate sums ≡ true
  pub shown : list_all (λ place. list_any (λ p. p == place) places) query.group ≡ true

-- the tables of a part: of each table that is divided, the rows whose value in its column belongs to the part; all rows of others
abbrev pub AreTablesOfPart : (Value → ℕ) → Columns → ℕ → List (List Fragment) → List (List Fragment) → Type 0
AreTablesOfPart part_of columns number whole part = (table : ℕ) → rows_in part table ≡ filter (λ (row : Fragment). goes_to part_of number (columns table) row.values) (rows_in whole table)

-- the answers are those of the plan over the parts of the tables, of which there are `count`
pub record ArePartAnswers (part_of : Value → ℕ) (columns : Columns) (count : ℕ) (whole : List (List Fragment)) (plan : Plan) (answers : List Table) : Type 0 where
  pub many : length answers ≡ count
  pub each : (i : ℕ) (d : Table) → i < count → (part : List (List Fragment)) × AreTablesOfPart part_of columns i whole part × IsTablesAnswer part plan (slice_index_or answers i d)

-- the rows of each answer
abbrev pub rows_of_answers : List Table → List (List Fragment)
rows_of_answers answers = map (λ (answer : Table). answer.rows) answers

-- if tables are divided so that answers add up, then the layers of the rows of all answers over the parts are the answer over the
-- whole tables
abbrev pub MergedAnswersAnswer : Type 0
MergedAnswersAnswer = (part_of : Value → ℕ) (columns : Columns) (count : ℕ) (catalogue : Catalogue) (whole : List (List Fragment)) (plan : Plan) (answers : List Table) (rows : List Fragment)
    → AnswersAddUp plan columns → ((value : Value) → part_of value < count) → AreFitting catalogue (in_tables whole) → AreQueriesOver catalogue plan
    → ArePartAnswers part_of columns count whole plan answers → IsLayers (copies (one_after_other (rows_of_answers answers))) rows
    → IsTablesAnswer whole plan (record { columns = plan.columns; rows = rows })

-- if they are divided so that counts and sums add up, then the layers of the sums of the groups of all answers over the parts
-- are the answer over the whole tables
abbrev pub AddedAnswersAnswer : Type 0
AddedAnswersAnswer = (groups : ℕ) (part_of : Value → ℕ) (columns : Columns) (count : ℕ) (catalogue : Catalogue) (whole : List (List Fragment)) (plan : Plan) (answers : List Table) (rows : List Fragment)
    → AggregatesAddUp plan columns groups → ((value : Value) → part_of value < count) → AreFitting catalogue (in_tables whole) → AreQueriesOver catalogue plan
    → ArePartAnswers part_of columns count whole plan answers → IsLayers (combined (Add groups) (length plan.left.outputs) (one_after_other (rows_of_answers answers))) rows
    → IsTablesAnswer whole plan (record { columns = plan.columns; rows = rows })
