-- Totals over the rows of a group: what each row adds, and the totals of the rows that have begun and not ended.
use Rattle.std.specs.Prelude.{◌≡◌, ◌<◌, ℕ, ℤ, pos, ◌+ℤ◌, ◌-ℤ◌, FitsSigned, Bool, false, not, cond, ◌&&◌, ◌||◌, List, [], ◌∷◌, ◌++◌, length, map, slice_index_or, take, All}
use Rattle.std.specs.Int.{w64}
use Rattle.std.specs.Ordering.{eq_by_cmp, int_eq}
use Rattle.tq_base.specs.declared.value.Value.{Value}
use Rattle.tq_base.specs.Contents.{Int}
use Rattle.tq_base.specs.declared.period.Period.{Period}
use Rattle.tq_base.specs.declared.fragment.Fragment.{Fragment}
use Rattle.tq_base.specs.ValueOrder.{values_cmp}
use Rattle.tq_base.specs.Periods.{holds}
use Rattle.tq_base.specs.declared.sort_input.SortKey.{SortKey}
use Rattle.tq_base.specs.declared.sort_input.RunStart.TheVariants.{Unknown}
use Rattle.tq_base.specs.Keys.{key_row, SortInputState}
use Rattle.tq_base.specs.Relations.{values_at_number}
use Rattle.tq_base.specs.Sweep.{upto}
use Rattle.tq_base.specs.RowValues.{number_of, value_at}
use Rattle.tq_agg.specs.declared.summands.Summand.{Summand}
use Rattle.tq_agg.specs.declared.summands.Summand.TheVariants.{Column, One}
use Rattle.tq_agg.specs.declared.bounds.End.{End}
use Rattle.tq_agg.specs.Bounds.{start_in}

-- what a row adds: 1, or the number at the place
abbrev pub weight_of : Summand → List Value → ℤ
weight_of One values = pos 1
weight_of (Column place) values = number_of (value_at values place)

-- the sum of what the elements weigh
abbrev pub added : {X : Type 0} → (X → ℤ) → List X → ℤ
added weight [] = pos 0
added weight (x ∷ xs) = weight x +ℤ added weight xs

-- what the row of a key adds
abbrev pub key_weight : SortInputState → Summand → SortKey → ℤ
key_weight sort_input s k = weight_of s (key_row sort_input k).values

-- the numbers are what the first rows add, row after row
abbrev pub AreWeights : List Fragment → Summand → List ℤ → Type 0
AreWeights rows s weights = (row : ℕ) → row < length weights → slice_index_or weights row (pos 0) ≡ weight_of s (values_at_number rows row)

-- the same for each list, for the summand at its place
abbrev pub HaveWeights : List Fragment → List Summand → List (List ℤ) → Type 0
HaveWeights rows summands lists = (place : ℕ) (d : Summand) → place < length summands → AreWeights rows (slice_index_or summands place d) (slice_index_or lists place [])

-- the key of the row that ends
abbrev pub end_key : End → SortKey
end_key e = record { prefix = 0; start = 0; row = e.row; side = e.side; run_start = Unknown }

-- what the rows of the keys add, without those of the ends
abbrev pub total_of : SortInputState → Summand → List SortKey → List End → ℤ
total_of sort_input s keys ends = added (key_weight sort_input s) keys -ℤ added (λ e. key_weight sort_input s (end_key e)) ends

abbrev pub totals_of : SortInputState → List Summand → List SortKey → List End → List ℤ
totals_of sort_input summands keys ends = map (λ s. total_of sort_input s keys ends) summands

-- what the rows that have begun by the instant add, without those that have ended
abbrev pub totals_upto : SortInputState → Period → List Summand → List SortKey → List End → ℕ → List ℤ
totals_upto sort_input window summands keys ends t =
    totals_of sort_input summands (take (upto (map (start_in window) keys) t) keys) (take (upto (map (λ e. e.at) ends) t) ends)

-- what the row adds if it is valid at the instant, inside the window; otherwise 0
abbrev pub held_weight : Summand → Period → ℕ → Fragment → ℤ
held_weight s window t row = cond (holds row.period t && holds window t) (weight_of s row.values) (pos 0)

-- what the rows valid at the instant, inside the window, add
abbrev pub total_held : Summand → Period → List Fragment → ℕ → ℤ
total_held s window rows t = added (held_weight s window t) rows

abbrev pub totals_held : List Summand → Period → List Fragment → ℕ → List ℤ
totals_held summands window rows t = map (λ s. total_held s window rows t) summands

-- the row adds a number of 64 signed bits
abbrev pub IsSmall : Summand → List Value → Type 0
IsSmall s row = FitsSigned w64 (weight_of s row)

-- each row adds one
abbrev pub HaveSmall : Summand → List Fragment → Type 0
HaveSmall s rows = All (λ r. IsSmall s r.values) rows

-- the row of each key adds one
abbrev pub AreSmallKeys : SortInputState → Summand → List SortKey → Type 0
AreSmallKeys sort_input s keys = All (λ k. IsSmall s (key_row sort_input k).values) keys

-- the row of each end adds one
abbrev pub AreSmallEnds : SortInputState → Summand → List End → Type 0
AreSmallEnds sort_input s ends = All (λ e. IsSmall s (key_row sort_input (end_key e)).values) ends

-- the rows of the keys and of the ends add numbers of 64 signed bits to each summand, as its list says
pub record AreSummed (rows : List Fragment) (sort_input : SortInputState) (summands : List Summand) (keys : List SortKey) (ends : List End) (lists : List (List ℤ)) : Type 0 where
  pub small : All (λ s. AreSmallKeys sort_input s keys) summands
  pub ends_small : All (λ s. AreSmallEnds sort_input s ends) summands
  pub weights : HaveWeights rows summands lists

-- whether the first of the totals, the count of rows, is not 0
abbrev pub has_rows : List ℤ → Bool
has_rows [] = false
has_rows (count ∷ totals) = not (int_eq count (pos 0))

-- 1 if these are the values of the result row of the totals, otherwise 0
abbrev pub row_copies : List Value → List ℤ → List Value → ℕ
row_copies key totals v = cond (eq_by_cmp values_cmp (key ++ map Int totals) v) 1 0

-- the same if the totals count any row, otherwise 0
abbrev pub shown_copies : List Value → List ℤ → List Value → ℕ
shown_copies key totals v = cond (has_rows totals) (row_copies key totals v) 0

-- the same, and a result row for totals that count no row if `shows_zero`
abbrev pub result_copies : Bool → List Value → List ℤ → List Value → ℕ
result_copies shows_zero key totals v = cond (shows_zero || has_rows totals) (row_copies key totals v) 0
