-- Difference of one group of rows with equal values: when its count changes.
use Rattle.std.specs.Prelude.{◌≡◌, ◌<◌, ℕ, ◌-◌, ◌++◌, ◌&&◌, not, List, All, IsPermutation, count_by, length, map, nat_le}
use Rattle.std.specs.Ordering.{eq_by_cmp}
use Rattle.tq_base.specs.ValueOrder.{values_cmp}
use Rattle.tq_base.specs.declared.value.Value.{Value}
use Rattle.tq_base.specs.declared.period.Period.{Period}
use Rattle.tq_base.specs.declared.fragment.Fragment.{Fragment}
use Rattle.tq_base.specs.declared.sort_input.Side.{Side}
use Rattle.tq_base.specs.declared.sort_input.Side.TheVariants.{Left, Right}
use Rattle.tq_base.specs.Keys.{held as held_key, held_on, is_same_side, key_row, overlapping, HaveRunStarts, Held, IsSortKey, Rises, SortInputState}
use Rattle.tq_base.specs.declared.relation.RowPeriod.{RowPeriod}
use Rattle.tq_base.specs.declared.sort_input.SortKey.{SortKey}
use Rattle.tq_base.specs.Periods.{holds}
use Rattle.tq_base.specs.Relations.{row_period_of}
use Rattle.tq_base.specs.Layering.{held, rows_of}
use Rattle.tq_ops.specs.declared.difference.Change.{Change}

-- the number of rows of the side that are valid at the instant, inside the window
abbrev pub side_held : Period → Side → List Held → ℕ → ℕ
side_held window side rows t = count_by (λ r. is_same_side side r.side && (holds r.row.period t && holds window t)) rows

-- the number of those that have the values
abbrev pub side_copies : Period → Side → List Held → List Value → ℕ → ℕ
side_copies window side rows v t =
    count_by (λ r. (is_same_side side r.side && (holds r.row.period t && holds window t)) && eq_by_cmp values_cmp r.row.values v) rows

-- the number of changes up to the instant that are rises
abbrev pub rises_upto : List Change → ℕ → ℕ
rises_upto changes t = count_by (λ c. c.rises && nat_le c.at t) changes

-- the number of changes up to the instant that are falls
abbrev pub falls_upto : List Change → ℕ → ℕ
falls_upto changes t = count_by (λ c. not c.rises && nat_le c.at t) changes

-- rises and falls are equally many
abbrev pub IsEven : List Change → Type 0
IsEven changes = count_by (λ c. c.rises) changes ≡ count_by (λ c. not c.rises) changes

-- the periods of the rows that the keys name
abbrev pub periods_on : SortInputState → List SortKey → List Period
periods_on s keys = map (λ k. (key_row s k).period) keys

-- each row has the values
abbrev pub AreOfValues : List Value → List Held → Type 0
AreOfValues v rows = All (λ r. r.row.values ≡ v) rows

-- new is old followed by rows with the values; at each instant, as many are valid as the group has more rows of the
-- left
pub record AddsDifference (window : Period) (group : List Held) (v : List Value) (old new : List Fragment) : Type 0 where
  pub periods : List Period
  pub counted : (t : ℕ) → held periods t ≡ side_held window Left group t - side_held window Right group t
  pub added : new ≡ old ++ rows_of v periods

-- the rows of the left with these numbers, each with its new period
abbrev pub rows_at_periods : SortInputState → List RowPeriod → List Fragment
rows_at_periods s lines = map (row_period_of s.left) lines

-- each number is that of a row of the left
abbrev pub AreRowPeriods : SortInputState → List RowPeriod → Type 0
AreRowPeriods s lines = All (λ (line : RowPeriod). line.row < length s.left) lines

-- the keys of all rows of both sides that overlap the window, in order
pub record AreKeysOfBoth (s : SortInputState) (window : Period) (keys : List SortKey) : Type 0 where
  pub rows : IsPermutation (held_on Left (overlapping window s.left) ++ held_on Right (overlapping window s.right)) (map (held_key s) keys)
  pub each : All (IsSortKey s) keys
  pub run_starts : HaveRunStarts s keys
  pub rising : Rises s keys
