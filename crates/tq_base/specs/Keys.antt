-- The order in which rows are sorted: by the normalized key prefix of the first compared value, then by the values that
-- the prefix does not decide, then by start. This project's own.
use Rattle.std.specs.Prelude.{◌≡◌, ◌≢◌, ◌<◌, ℕ, ◌+◌, ◌^◌, ◌%◌, Bool, true, false, nat_lt, ◌&&◌, cond, if◌then◌else◌, List, [], ◌∷◌, length, map, drop, filter, refl, slice_index_or, Option, Some, None, All, AllPairs}
use Rattle.std.specs.Ordering.{is_ne, nat_cmp, on, then_cmp}
use Rattle.std.specs.declared.cmp.Ordering.{Ordering}
use Rattle.std.specs.declared.cmp.Ordering.TheVariants.{Greater}
use Rattle.std.proofs.lemmas.Bool.{ltb-true}
use Rattle.tq_base.specs.declared.value.Value.{Value}
use Rattle.tq_base.specs.declared.period.Period.{Period}
use Rattle.tq_base.specs.declared.fragment.Fragment.{Fragment}
use Rattle.tq_base.specs.declared.sort_input.SortKey.{SortKey}
use Rattle.tq_base.specs.declared.sort_input.RunStart.{RunStart}
use Rattle.tq_base.specs.declared.sort_input.RunStart.TheVariants.{Unknown, Begins, GoesOn}
use Rattle.tq_base.specs.declared.sort_input.Side.{Side}
use Rattle.tq_base.specs.declared.sort_input.Side.TheVariants as side
use Rattle.tq_base.specs.RowValues.{value_at}
use Rattle.tq_base.specs.NormalizedKeys.{normalized_key, HasBytes}
use Rattle.tq_base.specs.ValueOrder.{values_cmp}

-- the rows of two sides, and for each side the columns to compare
pub record SortInputState : Type 0 where
  pub left : List Fragment
  pub right : List Fragment
  pub left_columns : List ℕ
  pub right_columns : List ℕ

abbrev pub rows_on : SortInputState → Side → List Fragment
rows_on s side.Left = s.left
rows_on s side.Right = s.right

abbrev pub columns_on : SortInputState → Side → List ℕ
columns_on s side.Left = s.left_columns
columns_on s side.Right = s.right_columns

-- the row that stands for a missing one: no values, valid at the first instant
abbrev pub no_row : Fragment
no_row = record { values = []; period = record { start = 0; end = 1; ordered = ltb-true 0 1 refl } }

-- the row of the key
abbrev pub key_row : SortInputState → SortKey → Fragment
key_row s k = slice_index_or (rows_on s k.side) k.row no_row

-- the compared values of the key's row
abbrev pub key_values : SortInputState → SortKey → List Value
key_values s k = map (value_at (key_row s k).values) (columns_on s k.side)

-- a row and its side
pub record Held : Type 0 where
  pub side : Side
  pub row : Fragment

-- the row and the side that the key stands for
abbrev pub held : SortInputState → SortKey → Held
held s k = record { side = k.side; row = key_row s k }

-- the rows, all on one side
abbrev pub held_on : Side → List Fragment → List Held
held_on of rows = map (λ row. record { side = of; row = row }) rows

abbrev pub is_same_side : Side → Side → Bool
is_same_side side.Left side.Left = true
is_same_side side.Left side.Right = false
is_same_side side.Right side.Left = false
is_same_side side.Right side.Right = true

-- whether the periods have an instant in common
abbrev pub is_overlap : Period → Period → Bool
is_overlap p q = nat_lt p.start q.end && nat_lt q.start p.end

-- the rows that overlap the window
abbrev pub overlapping : Period → List Fragment → List Fragment
overlapping window rows = filter (λ f. is_overlap f.period window) rows

-- the rows that overlap the window; all rows if there is no window
abbrev pub within : Option Period → List Fragment → List Fragment
within None rows = rows
within (Some window) rows = overlapping window rows

-- whether the period overlaps the window; true if there is no window
abbrev pub is_within : Option Period → Period → Bool
is_within None p = true
is_within (Some window) p = is_overlap p window

-- the prefix of the first value, 0 if there is none
abbrev pub first_prefix : List Value → ℕ
first_prefix [] = 0
first_prefix (v ∷ values) = normalized_key v

-- if the first value is a text, it consists of bytes
abbrev pub BeginsWithBytes : List Value → Type 0
BeginsWithBytes [] = Unit {0}
BeginsWithBytes (v ∷ values) = HasBytes v

-- whether a prefix determines its value: the value is a number of 64 signed bits, or a text of at most 14 bytes
abbrev pub is_exact : ℕ → Bool
is_exact prefix =
    if nat_lt prefix (2 ^ 120) then nat_lt 0 prefix && nat_lt prefix (2 ^ 64 + 1) else nat_lt (prefix % 256) 15

-- the values still to compare if two prefixes are equal
abbrev pub values_left : ℕ → List Value → List Value
values_left prefix values = cond (is_exact prefix) (drop 1 values) values

-- by the prefixes, then by the values that they do not decide
abbrev pub value_key_cmp : SortInputState → SortKey → SortKey → Ordering
value_key_cmp s = then_cmp (on (λ k. k.prefix) nat_cmp) (on (λ k. values_left k.prefix (key_values s k)) values_cmp)

-- by the values, then by the starts
abbrev pub key_cmp : SortInputState → SortKey → SortKey → Ordering
key_cmp s = then_cmp (value_key_cmp s) (on (λ k. k.start) nat_cmp)

-- by prefix and start: the order of keys if no values are left to compare
abbrev pub prefix_start_cmp : SortKey → SortKey → Ordering
prefix_start_cmp = then_cmp (on (λ k. k.prefix) nat_cmp) (on (λ k. k.start) nat_cmp)

-- the prefixes determine all compared values
abbrev pub AreExact : SortInputState → List SortKey → Type 0
AreExact s keys = All (λ k. values_left k.prefix (key_values s k) ≡ []) keys

-- the key belongs to a row
pub record IsSortKey (s : SortInputState) (k : SortKey) : Type 0 where
  pub stands : k.row < length (rows_on s k.side)
  pub prefix : k.prefix ≡ first_prefix (key_values s k)
  pub bytes : BeginsWithBytes (key_values s k)
  pub start : k.start ≡ (key_row s k).period.start

-- the key belongs to a row, and nothing is known yet about whether it begins a run
pub record IsFresh (s : SortInputState) (k : SortKey) : Type 0 where
  pub key : IsSortKey s k
  pub without_run_start : k.run_start ≡ Unknown

-- the key's run start is right: `Begins` if its values differ from those of the key before it, `GoesOn` if they are the
-- same, `Unknown` in either case
abbrev pub IsRunStart : SortInputState → SortKey → SortKey → Type 0
IsRunStart s last k = (k.run_start ≡ Begins → key_values s last ≢ key_values s k) × (k.run_start ≡ GoesOn → key_values s last ≡ key_values s k)

abbrev pub HaveRunStarts : SortInputState → List SortKey → Type 0
HaveRunStarts s keys = (i : ℕ) (d : SortKey) → i + 1 < length keys → IsRunStart s (slice_index_or keys i d) (slice_index_or keys (i + 1) d)

-- what the run start says; if it is `Unknown`, whether the values differ
abbrev pub begins_by : RunStart → Bool → Bool
begins_by Unknown apart = apart
begins_by Begins apart = true
begins_by GoesOn apart = false

-- whether the key at the place begins another run, by its run start or by comparison with the first key
abbrev pub begins_run : SortInputState → ℕ → SortKey → SortKey → Bool
begins_run s place k first = nat_lt 0 place && begins_by k.run_start (is_ne (value_key_cmp s k first))

-- no key's values are above those of a later one
abbrev pub Rises : SortInputState → List SortKey → Type 0
Rises s keys = AllPairs (λ a b. values_cmp (key_values s a) (key_values s b) ≢ Greater) keys
