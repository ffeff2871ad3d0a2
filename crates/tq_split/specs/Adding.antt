-- The adding of partial aggregates: the rows that the answers over parts have for one group make one row. After SQL over bags;
-- the rest is this project's own.
use Rattle.std.specs.Prelude.{ℕ, ◌-◌, List, ◌++◌, map, min, take}
use Rattle.std.specs.List.{range_with_len}
use Rattle.tq_base.specs.declared.fragment.Fragment.{Fragment}
use Rattle.tq_base.specs.declared.value.Value.{Value}
use Rattle.tq_base.specs.Contents.{Int}
use Rattle.tq_base.specs.Fragments.{at, copies, occurrences}
use Rattle.tq_condition.specs.Ordinary.{projection}
use Rattle.tq_agg.specs.Grouping.{Row, first_row, grouped_by, sum_at}
use Rattle.tq_split.specs.declared.combine.Combine.{Combine}
use Rattle.tq_split.specs.declared.combine.Combine.TheVariants.{Add, Merge}

-- the row of a group: its first values, and the sums of the others
abbrev pub added_row : ℕ → ℕ → List Row → Row
added_row groups sums rows = projection (range_with_len 0 groups) (first_row rows) ++ map (λ place. Int (sum_at place rows)) (range_with_len groups sums)

-- rows of this many values, added: one row for each group of equal first values (SELECT g, .., SUM(a), .. GROUP BY g, ..)
abbrev pub added_rows : ℕ → ℕ → List Row → List Row
added_rows groups width rows = map (added_row (min groups width) (width - groups)) (grouped_by (range_with_len 0 (min groups width)) rows)

-- the values that the rows of a run have in common: all, or those of the group
abbrev pub run_values : Combine → List Value → List Value
run_values Merge values = values
run_values (Add groups) values = take groups values

-- how often a row of this many values is valid at the instant in what the rows make: as often as among the rows, or among the
-- sums of those that are valid then
abbrev pub combined : Combine → ℕ → List Fragment → List Value → ℕ → ℕ
combined Merge width rows v t = copies rows v t
combined (Add groups) width rows v t = occurrences (added_rows groups width (at rows t)) v
