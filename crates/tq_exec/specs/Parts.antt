-- The law of a divided execution: each way to divide the rows of a plan makes parts that add up to the whole. This
-- project's own.
use Rattle.std.specs.Prelude.{◌≡◌, ◌≤◌, ◌<◌, ℕ, List, length, map, slice_index_or, sum_by}
use Rattle.std.specs.List.{range_with_len}
use Rattle.tq_base.specs.declared.catalogue.Catalogue.{Catalogue}
use Rattle.tq_base.specs.declared.fragment.Fragment.{Fragment}
use Rattle.tq_base.specs.declared.period.Period.{Period}
use Rattle.tq_base.specs.declared.value.Value.{Value}
use Rattle.tq_base.specs.Fragments.{copies}
use Rattle.tq_base.specs.Layers.{IsLayers}
use Rattle.tq_base.specs.Ranges.{one_after_other, AreAscending}
use Rattle.tq_base.specs.Relations.{row_at}
use Rattle.tq_base.specs.RowLists.{RowList}
use Rattle.tq_agg.specs.Grouping.{Row}
use Rattle.tq_plan.specs.declared.plans.Plan.{Plan}
use Rattle.tq_plan.specs.Cuts.{Tile}
use Rattle.tq_plan.specs.ValidPlans.{AreQueriesOver}
use Rattle.tq_table.specs.Merging.{all_rows}
use Rattle.tq_exec.specs.Answers.{times_at, times_within, ValidRows}
use Rattle.tq_exec.specs.Fitting.{AreFitting}
use Rattle.tq_exec.specs.OutputRanges.{numbers_in}
use Rattle.tq_exec.specs.Partitioning.{AreLinkedBy, ArePartitionedBy, Columns, OnlyJoins, in_partition}

-- the numbers of the parts, of which there are `number`, add up to that of the whole
abbrev pub AddUp : ℕ → (ℕ → ℕ) → ℕ → Type 0
AddUp number part whole = sum_by part (range_with_len 0 number) ≡ whole

-- in the parts together, of which there are `number`, each row is valid as often as in the whole, at each instant
abbrev pub AreParts : ℕ → (ℕ → Row → ℕ → ℕ) → (Row → ℕ → ℕ) → Type 0
AreParts number part whole = (v : Row) (t : ℕ) → AddUp number (λ i. part i v t) (whole v t)

-- ---- the law

-- if the lists have the row at the instant as often as the parts, all lists together have it as often as the whole
abbrev pub PartsHaveRows : Type 0
PartsHaveRows = (v : Row) (t : ℕ) (lists : List RowList) (part : ℕ → ℕ) (whole : ℕ) → AddUp (length lists) part whole
    → ((i : ℕ) (d : RowList) → i < length lists → copies (slice_index_or lists i d).items v t ≡ part i)
    → copies (all_rows lists) v t ≡ whole

-- if the lists are the ordered, coalesced rows of the parts, and the rows of each are below those of every later one, then one
-- after the other they are the ordered, coalesced rows of the whole
abbrev pub PartsHaveLayers : Type 0
PartsHaveLayers = (lists : List (List Fragment)) (part : ℕ → Row → ℕ → ℕ) (whole : Row → ℕ → ℕ) → AreParts (length lists) part whole
    → ((i : ℕ) (d : List Fragment) → i < length lists → IsLayers (part i) (slice_index_or lists i d)) → AreAscending lists
    → IsLayers whole (one_after_other lists)

-- ---- what makes parts

-- partitions of the tables by a column that partitions the plan, to whichever of them each value belongs
abbrev pub PartitionsAreParts : Type 0
PartitionsAreParts = (partition_of : Value → ℕ) (count : ℕ) (columns : Columns) (catalogue : Catalogue) (valid : ValidRows) (plan : Plan) → ((value : Value) → partition_of value < count)
    → AreFitting catalogue valid → AreQueriesOver catalogue plan → ArePartitionedBy columns plan
    → AreParts count (λ i. times_at (in_partition partition_of columns i valid) plan) (times_at valid plan)

-- partitions of the tables by columns that are equal in each row that passes, if the plan only selects and joins
abbrev pub LinkedPartitionsAreParts : Type 0
LinkedPartitionsAreParts = (partition_of : Value → ℕ) (count : ℕ) (columns : Columns) (catalogue : Catalogue) (valid : ValidRows) (plan : Plan) → ((value : Value) → partition_of value < count)
    → AreFitting catalogue valid → AreQueriesOver catalogue plan → OnlyJoins plan → AreLinkedBy columns plan.left
    → AreParts count (λ i. times_at (in_partition partition_of columns i valid) plan) (times_at valid plan)

-- periods that tile the plan's window
abbrev pub PeriodsAreParts : Type 0
PeriodsAreParts = (valid : ValidRows) (plan : Plan) (periods : List Period) (d : Period) → Tile plan.window periods
    → AreParts (length periods) (λ i. times_within valid plan (slice_index_or periods i d)) (times_at valid plan)

-- ranges of rows, by an id of each
abbrev pub RangesAreParts : Type 0
RangesAreParts = (rows : List Fragment) (ids : List ℕ) (count : ℕ) → 1 ≤ count
    → AreParts count (λ i. copies (map (row_at rows) (numbers_in ids count (length rows) i))) (copies rows)
