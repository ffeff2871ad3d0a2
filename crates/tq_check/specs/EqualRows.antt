-- Rows that overlap or meet an earlier row with equal values. Of two rows with equal values, the earlier one starts
-- first; if both start at the same instant, it comes first in the table. This project's own.
use Rattle.std.specs.Prelude.{ℕ, ◌+◌, ◌==◌, ◌&&◌, ◌||◌, Bool, not, nat_lt, cond, List, [], ◌∷◌}
use Rattle.std.specs.List.{list_any}
use Rattle.std.specs.Ordering.{eq_by_cmp}
use Rattle.tq_base.specs.ValueOrder.{values_cmp}
use Rattle.tq_base.specs.declared.value.Value.{Value}
use Rattle.tq_base.specs.declared.fragment.Fragment.{Fragment}

-- whether the row has these values, starts before the instant, and is valid at it
abbrev pub covers : List Value → ℕ → Fragment → Bool
covers values at row = eq_by_cmp values_cmp values row.values && (nat_lt row.period.start at && nat_lt at row.period.end)

-- whether the row has these values and starts at the instant
abbrev pub starts_at : List Value → ℕ → Fragment → Bool
starts_at values at row = eq_by_cmp values_cmp values row.values && (row.period.start == at)

-- whether the row has these values and ends at the instant
abbrev pub ends_at : List Value → ℕ → Fragment → Bool
ends_at values at row = eq_by_cmp values_cmp values row.values && (row.period.end == at)

-- whether the row starts while an earlier equal row is valid: one that starts before it, or one that starts with it and
-- is among the rows above it
abbrev pub is_overlapping : List Fragment → List Fragment → Fragment → Bool
is_overlapping rows above row =
    list_any (covers row.values row.period.start) rows || list_any (starts_at row.values row.period.start) above

-- whether the row starts exactly when an equal row ends, and does not overlap an earlier one
abbrev pub is_meeting : List Fragment → List Fragment → Fragment → Bool
is_meeting rows above row = not (is_overlapping rows above row) && list_any (ends_at row.values row.period.start) rows

-- how many rows pass the test; the test gets the rows above the row, which are those given and all rows before it
unfoldable pub count_rows : {X : Type 0} → (List X → X → Bool) → List X → List X → ℕ
count_rows test above [] = 0
count_rows test above (row ∷ rows) = cond (test above row) 1 0 + count_rows test (row ∷ above) rows

-- how many rows of a table start while an earlier equal row is valid
abbrev pub overlapping : List Fragment → ℕ
overlapping rows = count_rows (is_overlapping rows) [] rows

-- how many start exactly when an equal row ends, and do not overlap an earlier one
abbrev pub meeting : List Fragment → ℕ
meeting rows = count_rows (is_meeting rows) [] rows
