-- Equal rows in the order of their starts, one after another, with only the greatest end so far. This project's own.
use Rattle.std.specs.Prelude.{◌≡◌, ◌≤◌, ℕ, ◌+◌, ◌==◌, ◌&&◌, max, not, nat_lt, cond, List, [], ◌∷◌, All, AllPairs}
use Rattle.tq_base.specs.Keys.{key_row, key_values, HaveRunStarts, IsSortKey, Rises, SortInputState}
use Rattle.tq_base.specs.declared.fragment.Fragment.{Fragment}
use Rattle.tq_base.specs.declared.sort_input.SortKey.{SortKey}

-- 1 for a start before the greatest end so far, else 0
abbrev pub overlap_count : ℕ → ℕ → ℕ
overlap_count start reach = cond (nat_lt start reach) 1 0

-- 1 for a start exactly at the greatest end so far, if there is one, else 0
abbrev pub adjacent_count : ℕ → ℕ → ℕ
adjacent_count start reach = cond (not (nat_lt start reach) && ((start == reach) && nat_lt 0 reach)) 1 0

-- how many rows start before the greatest end of the rows before them; before the first row that end is `reach`
unfoldable pub overlapping_starts : ℕ → List Fragment → ℕ
overlapping_starts reach [] = 0
overlapping_starts reach (row ∷ rows) = overlap_count row.period.start reach + overlapping_starts (max reach row.period.end) rows

-- how many rows start exactly at it
unfoldable pub adjacent_starts : ℕ → List Fragment → ℕ
adjacent_starts reach [] = 0
adjacent_starts reach (row ∷ rows) = adjacent_count row.period.start reach + adjacent_starts (max reach row.period.end) rows

-- of keys with equal values, none starts after a later one
abbrev pub Ascend : SortInputState → List SortKey → Type 0
Ascend s keys = AllPairs (λ a b. key_values s a ≡ key_values s b → a.start ≤ b.start) keys

-- all values of the keys' rows are compared
abbrev pub CompareAllValues : SortInputState → List SortKey → Type 0
CompareAllValues s keys = All (λ k. key_values s k ≡ (key_row s k).values) keys

-- the keys of all rows of a table, ordered by their values and then by their starts
pub record AreInOrder (s : SortInputState) (keys : List SortKey) : Type 0 where
  pub each : All (IsSortKey s) keys
  pub run_starts : HaveRunStarts s keys
  pub rises : Rises s keys
  pub ascend : Ascend s keys
  pub whole : CompareAllValues s keys
