-- Sorted keys of rows, one after another, joined to periods in which rows with the same values are valid. This project's
-- own.
use Rattle.std.specs.Prelude.{◌≡◌, ◌<◌, ℕ, ◌&&◌, ◌||◌, ◌⊎◌, Bool, max, nat_le, nat_lt, if◌then◌else◌, List, [], ◌∷◌, All, AllPairs, map}
use Rattle.std.specs.List.{list_any}
use Rattle.std.specs.Ordering.{eq_by_cmp, is_eq, is_lt}
use Rattle.std.specs.declared.cmp.Ordering.TheVariants.{Equal, Less}
use Rattle.tq_base.specs.Keys.{key_row, key_values, value_key_cmp, IsSortKey, SortInputState}
use Rattle.tq_base.specs.Periods.{holds}
use Rattle.tq_base.specs.RowValues.{value_at}
use Rattle.tq_base.specs.ValueOrder.{values_cmp}
use Rattle.tq_base.specs.declared.fragment.Fragment.{Fragment}
use Rattle.tq_base.specs.declared.sort_input.SortKey.{SortKey}
use Rattle.tq_base.specs.declared.value.Value.{Value}
use Rattle.tq_check.specs.declared.covers.Cover.{Cover}

-- the period of one row
abbrev pub cover_of : SortInputState → SortKey → Cover
cover_of s key = record { key = key; end = (key_row s key).period.end }

-- whether the row has the values of the cover, and starts before the cover ends or when it ends
abbrev pub continues : SortInputState → Cover → SortKey → Bool
continues s cover key = nat_le key.start cover.end && is_eq (value_key_cmp s cover.key key)

-- the cover, up to the end of the row if that is later
abbrev pub extended : SortInputState → Cover → SortKey → Cover
extended s cover key = record { key = cover.key; end = max cover.end (key_row s key).period.end }

-- the covers of the rows, the first of which goes on with the given one
unfoldable pub covers_after : SortInputState → Cover → List SortKey → List Cover
covers_after s cover [] = cover ∷ []
covers_after s cover (key ∷ keys) =
    if continues s cover key then covers_after s (extended s cover key) keys else cover ∷ covers_after s (cover_of s key) keys

abbrev pub covers_of : SortInputState → List SortKey → List Cover
covers_of s [] = []
covers_of s (key ∷ keys) = covers_after s (cover_of s key) keys

-- ---- what covers are

-- whether the cover has the values, and contains the instant
abbrev pub is_covering : SortInputState → List Value → ℕ → Cover → Bool
is_covering s values at cover = eq_by_cmp values_cmp values (key_values s cover.key) && (nat_le cover.key.start at && nat_lt at cover.end)

-- whether the row on the right side has the values in the compared columns, and is valid at the instant
abbrev pub is_valid_row : SortInputState → List Value → ℕ → Fragment → Bool
is_valid_row s values at row = eq_by_cmp values_cmp values (map (value_at row.values) s.right_columns) && holds row.period at

-- the first cover has lesser values, or the same and ends before the second one starts
abbrev pub IsBefore : SortInputState → Cover → Cover → Type 0
IsBefore s cover other =
    (value_key_cmp s cover.key other.key ≡ Less) ⊎ ((value_key_cmp s cover.key other.key ≡ Equal) × (cover.end < other.key.start))

-- the covers of the rows on the right side: those of each value lie apart, and contain exactly the instants at which a
-- row with that value is valid
pub record AreCovers (s : SortInputState) (covers : List Cover) : Type 0 where
  pub each : All (λ (cover : Cover). IsSortKey s cover.key) covers
  pub some : All (λ (cover : Cover). cover.key.start < cover.end) covers
  pub apart : AllPairs (IsBefore s) covers
  pub same : (values : List Value) (at : ℕ) → list_any (is_covering s values at) covers ≡ list_any (is_valid_row s values at) s.right

-- whether the cover lies before the start of the key's row: it has lesser values, or the same and has ended
abbrev pub is_passed : SortInputState → SortKey → Cover → Bool
is_passed s key cover = is_lt (value_key_cmp s cover.key key) || (is_eq (value_key_cmp s cover.key key) && nat_le cover.end key.start)
