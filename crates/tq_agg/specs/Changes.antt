-- The bounds of rows, and the number that each row adds to a sum while it is valid. This project's own.
use Rattle.std.specs.Prelude.{◌≡◌, ℕ, ℤ, pos, ◌-ℤ◌, ◌&&◌, cond, nat_le, FitsSigned, List, [], ◌∷◌, map, take, All}
use Rattle.std.specs.Int.{w64}
use Rattle.tq_base.specs.declared.value.Value.{Value}
use Rattle.tq_base.specs.declared.period.Period.{Period}
use Rattle.tq_base.specs.declared.fragment.Fragment.{Fragment}
use Rattle.tq_base.specs.RowValues.{value_at}
use Rattle.tq_base.specs.Periods.{holds}
use Rattle.tq_base.specs.Relations.{column_of}
use Rattle.tq_agg.specs.declared.changes.Change.{Change}
use Rattle.tq_agg.specs.declared.buckets.Bucket.{Bucket}
use Rattle.tq_agg.specs.declared.buckets.Tally.{Tally}
use Rattle.tq_agg.specs.declared.summands.Summand.{Summand}
use Rattle.tq_agg.specs.declared.summands.Summand.TheVariants.{Column, One}
use Rattle.tq_agg.specs.Buckets.{value_of, AreRanked}
use Rattle.tq_agg.specs.Endpoints.{AreInside}
use Rattle.tq_agg.specs.Grouping.{same_row}
use Rattle.tq_agg.specs.Totals.{added, weight_of}

-- the bounds of the changes
abbrev pub bounds_of : List Change → List ℕ
bounds_of changes = map (λ (c : Change). c.at) changes

-- the sum of their numbers
abbrev pub weights : List Change → ℤ
weights changes = added (λ (c : Change). c.weight) changes

-- each of their numbers has 64 signed bits
abbrev pub HaveSmallWeights : List Change → Type 0
HaveSmallWeights changes = All (λ (c : Change). FitsSigned w64 c.weight) changes

-- the count of rows and their sum, after that many starts and ends
abbrev pub totals_after : List Change → List Change → ℕ → ℕ → List ℤ
totals_after starts ends begun ended = (pos begun -ℤ pos ended) ∷ (weights (take begun starts) -ℤ weights (take ended ends)) ∷ []

-- what a row with this number adds to the count, and to the sum
abbrev pub one : ℤ → ℤ
one weight = pos 1

abbrev pub own : ℤ → ℤ
own weight = weight

-- what the changes add that come by the instant
abbrev pub changed_by : (ℤ → ℤ) → List Change → ℕ → ℤ
changed_by f changes t = added (λ (c : Change). cond (nat_le c.at t) (f c.weight) (pos 0)) changes

-- what the rows add that have begun by the instant and not ended
abbrev pub changed_upto : (ℤ → ℤ) → List Change → List Change → ℕ → ℤ
changed_upto f starts ends t = changed_by f starts t -ℤ changed_by f ends t

-- the count of these rows, and their sum
abbrev pub totals_changed : List Change → List Change → ℕ → List ℤ
totals_changed starts ends t = changed_upto one starts ends t ∷ changed_upto own starts ends t ∷ []

-- the changes come at bounds of the window, its end among them, and their numbers have 64 signed bits
abbrev pub ChangeInside : Period → List Change → Type 0
ChangeInside window changes = AreInside window (bounds_of changes) × HaveSmallWeights changes

-- the same for the changes of all buckets
abbrev pub AreChangesCut : Period → List Bucket → Type 0
AreChangesCut window buckets = All (λ (b : Bucket). ChangeInside window b.changes.starts.items × ChangeInside window b.changes.ends.items) buckets

-- what the rows of the bucket add that have the key, and have begun by the instant and not ended
abbrev pub bucket_change : (ℤ → ℤ) → List Value → ℕ → List Value → Bucket → ℤ
bucket_change f column t key b =
    cond (same_row (value_of column b ∷ []) key) (changed_upto f b.changes.starts.items b.changes.ends.items t) (pos 0)

-- the same, added over all buckets
abbrev pub weighed : (ℤ → ℤ) → List Value → ℕ → List Value → List Bucket → ℤ
weighed f column t key buckets = added (bucket_change f column t key) buckets

-- what the rows of the key add that are valid at the instant, inside the window
abbrev pub keyed_weight : ℕ → Period → Summand → ℕ → List Value → List Fragment → ℤ
keyed_weight column window s t key rows =
    added (λ (row : Fragment). cond (holds row.period t && holds window t) (cond (same_row (value_at row.values column ∷ []) key) (weight_of s row.values) (pos 0)) (pos 0)) rows

-- the rows are in the buckets of their values, each with the number in the summed column
pub record AreWeighed (rows : List Fragment) (window : Period) (column summed : ℕ) (buckets : Tally) : Type 0 where
  pub ranked : AreRanked (column_of rows column) buckets.ranks.items buckets.list.items
  pub cut : AreChangesCut window buckets.list.items
  pub counts : (t : ℕ) (key : List Value) → weighed one (column_of rows column) t key buckets.list.items ≡ keyed_weight column window One t key rows
  pub sums : (t : ℕ) (key : List Value) → weighed own (column_of rows column) t key buckets.list.items ≡ keyed_weight column window (Column summed) t key rows
