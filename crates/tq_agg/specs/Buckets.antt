-- The rows of a few values of one column, a bucket for each value.
use Rattle.std.specs.Prelude.{◌≡◌, ◌<◌, ◌==◌, ◌⊎◌, ℕ, ℤ, pos, ◌+ℤ◌, true, cond, ◌&&◌, nat_le, List, [], ◌∷◌, drop, filter, length, map, take, All, AllPairs}
use Rattle.std.specs.List.{list_any}
use Rattle.std.proofs.Props.{props}
use Rattle.tq_base.specs.RowValues.{value_at}
use Rattle.tq_base.specs.declared.value.Value.{Value}
use Rattle.tq_base.specs.Contents.{Int, Text}
use Rattle.tq_base.specs.declared.period.Period.{Period}
use Rattle.tq_base.specs.declared.fragment.Fragment.{Fragment}
use Rattle.tq_base.specs.Keys.{is_exact}
use Rattle.tq_base.specs.Periods.{holds}
use Rattle.tq_base.specs.NormalizedKeys.{normalized_key, HasBytes}
use Rattle.tq_base.specs.Relations.{column_of}
use Rattle.tq_agg.specs.declared.buckets.Bucket.{Bucket}
use Rattle.tq_agg.specs.declared.buckets.Tally.{Tally}
use Rattle.tq_agg.specs.Endpoints.{count_upto, AreInside}
use Rattle.tq_agg.specs.Grouping.{same_row}
use Rattle.tq_agg.specs.Totals.{added}

-- the value in the column that the rows of the bucket have
abbrev pub value_of : List Value → Bucket → Value
value_of column b = value_at column b.row

-- its normalized key prefix determines the value
abbrev pub HasExactKey : Value → Type 0
HasExactKey value = HasBytes value × (is_exact (normalized_key value) ≡ true)

-- the prefixes are those of the buckets' values, which they determine, and ascend
abbrev pub AreRanked : List Value → List ℕ → List Bucket → Type 0
AreRanked column ranks buckets =
    (ranks ≡ map (λ b. normalized_key (value_of column b)) buckets)
    × AllPairs (λ r q. r < q) ranks
    × All (λ b. HasExactKey (value_of column b)) buckets

-- the bounds of the bucket are of the window
abbrev pub IsInside : Period → Bucket → Type 0
IsInside window b = AreInside window b.endpoints.starts.items × AreInside window b.endpoints.ends.items

-- the bounds of all buckets are of the window
abbrev pub AreCut : Period → List Bucket → Type 0
AreCut window buckets = All (IsInside window) buckets

-- the number of rows of the bucket that have the key, and have begun by the instant and not ended
abbrev pub bucket_count : List Value → ℕ → List Value → Bucket → ℤ
bucket_count column t key b = cond (same_row (value_of column b ∷ []) key) (count_upto b.endpoints.starts.items b.endpoints.ends.items t) (pos 0)

-- the same, added over all buckets
abbrev pub counted : List Value → ℕ → List Value → List Bucket → ℤ
counted column t key buckets = added (bucket_count column t key) buckets

-- the number of rows of the key that are valid at the instant, inside the window
abbrev pub keyed_count : ℕ → Period → ℕ → List Value → List Fragment → ℤ
keyed_count column window t key rows =
    added (λ (row : Fragment). cond (holds row.period t && holds window t) (cond (same_row (value_at row.values column ∷ []) key) (pos 1) (pos 0)) (pos 0)) rows

-- the rows from one number to another are in the buckets of their values
pub record IsTally (rows : List Fragment) (window : Period) (column start end : ℕ) (buckets : Tally) : Type 0 where
  pub ranked : AreRanked (column_of rows column) buckets.ranks.items buckets.list.items
  pub cut : AreCut window buckets.list.items
  pub counts : (t : ℕ) (key : List Value) → keyed_count column window t key (take start rows) +ℤ counted (column_of rows column) t key buckets.list.items ≡ keyed_count column window t key (take end rows)

-- the bucket has no rows, or rows of the value that the prefix determines
abbrev pub IsFound : List Value → ℕ → Bucket → Type 0
IsFound column prefix b = ((b.endpoints.starts.items ≡ []) × (b.endpoints.ends.items ≡ [])) ⊎ (HasExactKey (value_of column b) × (normalized_key (value_of column b) ≡ prefix))

-- the number of rows of the key, of those whose value has the prefix, that have begun by the instant and not ended
abbrev pub counted_at : List Value → ℕ → ℕ → List Value → List Bucket → ℤ
counted_at column prefix t key buckets =
    added (λ (b : Bucket). cond (normalized_key (value_of column b) == prefix) (bucket_count column t key b) (pos 0)) buckets

-- the same over all partial aggregates
abbrev pub counted_in : List Value → ℕ → ℕ → List Value → List Tally → ℤ
counted_in column prefix t key tallies = added (λ (b : Tally). counted_at column prefix t key b.list.items) tallies

-- one of these numbers
abbrev pub IsAmong : List ℕ → ℕ → Type 0
IsAmong ranks prefix = list_any (λ r. r == prefix) ranks ≡ true

-- the prefixes ascend, and those of all buckets are among them
pub record AreRanksOf (ranks : List ℕ) (tallies : List Tally) : Type 0 where
  pub some : 0 < length ranks
  pub rise : AllPairs (λ r q. r < q) ranks
  pub among : All (λ (b : Tally). All (IsAmong ranks) b.ranks.items) tallies

-- all rows are in the buckets of the partial aggregates
pub record AreTallies (rows : List Fragment) (window : Period) (column : ℕ) (tallies : List Tally) : Type 0 where
  pub ranked : All (λ (b : Tally). AreRanked (column_of rows column) b.ranks.items b.list.items) tallies
  pub cut : All (λ (b : Tally). AreCut window b.list.items) tallies
  pub counts : (t : ℕ) (key : List Value) → added (λ (b : Tally). counted (column_of rows column) t key b.list.items) tallies ≡ keyed_count column window t key rows

-- the number of the partition of a value: how many prefixes, without the first, are not above its own
abbrev pub rank_share : List ℕ → Value → ℕ
rank_share ranks value = length (filter (λ cut. nat_le cut (normalized_key value)) (drop 1 ranks))

-- ---- these are propositions

pub ranks_prop : (ranks : List ℕ) (tallies : List Tally) → IsProp (AreRanksOf ranks tallies)
ranks_prop ranks tallies = hlevel props

bytes_prop : (value : Value) → IsProp (HasBytes value)
bytes_prop (Int n) = hlevel props
bytes_prop (Text t) = hlevel props

pub tallies_prop : (rows : List Fragment) (window : Period) (column : ℕ) (tallies : List Tally) → IsProp (AreTallies rows window column tallies)
tallies_prop rows window column tallies = hlevel (props, bytes_prop)
