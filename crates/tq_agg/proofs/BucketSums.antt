-- The rows that buckets of weights make, one bucket after another, are those of the groups with their sums.
use Rattle.std.proofs.Common.{◌≡◌, ◌≢◌, ℕ, ◌+◌, ◌<◌, ℤ, pos, ◌+ℤ◌, Bool, true, false, cond, List, [], ◌∷◌, length, take, get_or, refl, sym, subst, ap, ◌∙◌, arith}
use Rattle.std.specs.Prelude.{All}
use Rattle.std.proofs.lemmas.Bool.{false≢true}
use Rattle.std.proofs.lemmas.Int.{ints}
use Rattle.std.proofs.lemmas.List.Elements.{All-head, All-tail}
use Rattle.tq_base.specs.declared.fragment.Fragment.{Fragment}
use Rattle.tq_base.specs.declared.period.Period.{Period}
use Rattle.tq_base.specs.declared.value.Value.{Value}
use Rattle.tq_base.specs.Fragments.{at, copies, occurrences}
use Rattle.tq_base.specs.Periods.{holds}
use Rattle.tq_base.specs.ValueOrder.{eq_from_same, same_from_eq}
use Rattle.tq_agg.specs.declared.buckets.Bucket.{Bucket}
use Rattle.tq_agg.specs.declared.summands.Summand.TheVariants.{Column, One}
use Rattle.tq_agg.specs.Buckets.{value_of, AreRanked}
use Rattle.tq_agg.specs.Changes.{bucket_change, changed_upto, keyed_weight, one, own, totals_changed, weighed}
use Rattle.tq_agg.specs.Grouping.{grouped_rows, same_row}
use Rattle.tq_agg.specs.Totals.{shown_copies}
use Rattle.tq_agg.proofs.Adding.{added-step}
use Rattle.tq_agg.proofs.BucketRows.{others_before}
use Rattle.tq_agg.proofs.Gathering.{all_add}
use Rattle.tq_agg.proofs.GroupRows.{grouped_occurrences}
use Rattle.tq_agg.proofs.Grouping.{nothing, of_key, other_shown}

-- how many rows of the key the buckets have, and their sum
abbrev pub totals_weighed : List Value → ℕ → List Value → List Bucket → List ℤ
totals_weighed column t key buckets = weighed one column t key buckets ∷ weighed own column t key buckets ∷ []

-- buckets of other keys add nothing
none_weighed : (f : ℤ → ℤ) (column : List Value) (t : ℕ) (key : List Value) (buckets : List Bucket) → All (λ b. value_of column b ∷ [] ≢ key) buckets → weighed f column t key buckets ≡ pos 0
none_weighed f column t key [] apart = refl
none_weighed f column t key (b ∷ buckets) apart =
    omega (arith, ints, first (same_row (value_of column b ∷ []) key) refl, none_weighed f column t key buckets (All-tail (λ b. value_of column b ∷ [] ≢ key) b buckets apart))
  where
    first : (s : Bool) → same_row (value_of column b ∷ []) key ≡ s → cond s (changed_upto f b.changes.starts.items b.changes.ends.items t) (pos 0) ≡ pos 0
    first true is = absurd (All-head (λ b. value_of column b ∷ [] ≢ key) b buckets apart (same_from_eq (value_of column b ∷ []) key is))
    first false is = refl

module _ (column : List Value) (window : Period) (ranks : List ℕ) (buckets : List Bucket) (are : AreRanked column ranks buckets) (i : ℕ) (lt : i < length buckets) (b : Bucket) (is : b ≡ get_or buckets i b) where
  -- what the bucket adds is shown, and all others as before
  pub adds_sums : (t : ℕ) (v : List Value) (old new : ℕ) → old ≡ cond (holds window t) (shown_copies (take 1 v) (totals_weighed column t (take 1 v) (take i buckets)) v) 0
      → new ≡ old + cond (holds window t) (shown_copies (value_of column b ∷ []) (totals_changed b.changes.starts.items b.changes.ends.items t) v) 0
      → new ≡ cond (holds window t) (shown_copies (take 1 v) (totals_weighed column t (take 1 v) (take (i + 1) buckets)) v) 0
  adds_sums t v old new before more =
      split (same_row (value_of column b ∷ []) (take 1 v)) refl
    where
      added_by : (ℤ → ℤ) → ℤ
      added_by f = changed_upto f b.changes.starts.items b.changes.ends.items t

      step : (f : ℤ → ℤ) → weighed f column t (take 1 v) (take (i + 1) buckets) ≡ weighed f column t (take 1 v) (take i buckets) +ℤ bucket_change f column t (take 1 v) b
      step f = added-step (bucket_change f column t (take 1 v)) buckets i b lt is

      split : (s : Bool) → same_row (value_of column b ∷ []) (take 1 v) ≡ s → new ≡ cond (holds window t) (shown_copies (take 1 v) (totals_weighed column t (take 1 v) (take (i + 1) buckets)) v) 0
      split true equal =
          let same : value_of column b ∷ [] ≡ take 1 v = same_from_eq (value_of column b ∷ []) (take 1 v) equal in
          let apart : All (λ x. value_of column x ∷ [] ≢ take 1 v) (take i buckets) =
          subst (λ k. All (λ x. value_of column x ∷ [] ≢ k) (take i buckets)) same (others_before column window ranks buckets are i lt b is) in
          let none : (f : ℤ → ℤ) → weighed f column t (take 1 v) (take i buckets) ≡ pos 0 = λ f. none_weighed f column t (take 1 v) (take i buckets) apart in
          let all : (f : ℤ → ℤ) → weighed f column t (take 1 v) (take (i + 1) buckets) ≡ changed_upto f b.changes.starts.items b.changes.ends.items t =
          λ f. omega (arith, ints, step f, none f, ap (λ s. cond s (changed_upto f b.changes.starts.items b.changes.ends.items t) (pos 0)) equal) in
          let no_old : old ≡ 0 = before ∙ ap (λ n. cond (holds window t) (shown_copies (take 1 v) (n ∷ weighed own column t (take 1 v) (take i buckets) ∷ []) v) 0) (none one) ∙ nothing (holds window t) in
          let shown : cond (holds window t) (shown_copies (value_of column b ∷ []) (totals_changed b.changes.starts.items b.changes.ends.items t) v) 0
          ≡ cond (holds window t) (shown_copies (take 1 v) (totals_weighed column t (take 1 v) (take (i + 1) buckets)) v) 0 =
          ap (λ k. cond (holds window t) (shown_copies k (totals_changed b.changes.starts.items b.changes.ends.items t) v) 0) same
          ∙ (λ j. cond (holds window t) (shown_copies (take 1 v) (sym (all one) j ∷ sym (all own) j ∷ []) v) 0) in
          omega (arith, more, no_old, shown)
      split false differ =
          let differs : value_of column b ∷ [] ≢ take 1 v = λ same. false≢true (sym differ ∙ eq_from_same (value_of column b ∷ []) (take 1 v) same) in
          let all : (f : ℤ → ℤ) → weighed f column t (take 1 v) (take (i + 1) buckets) ≡ weighed f column t (take 1 v) (take i buckets) =
          λ f. omega (arith, ints, step f, ap (λ s. cond s (changed_upto f b.changes.starts.items b.changes.ends.items t) (pos 0)) differ) in
          let other : cond (holds window t) (shown_copies (value_of column b ∷ []) (totals_changed b.changes.starts.items b.changes.ends.items t) v) 0 ≡ 0 =
          ap (λ n. cond (holds window t) n 0) (other_shown (value_of column b ∷ []) 1 (totals_changed b.changes.starts.items b.changes.ends.items t) v refl differs) ∙ nothing (holds window t) in
          let stay : cond (holds window t) (shown_copies (take 1 v) (totals_weighed column t (take 1 v) (take (i + 1) buckets)) v) 0
          ≡ cond (holds window t) (shown_copies (take 1 v) (totals_weighed column t (take 1 v) (take i buckets)) v) 0 =
          λ j. cond (holds window t) (shown_copies (take 1 v) (all one j ∷ all own j ∷ []) v) 0 in
          omega (arith, more, other, before, stay)

-- what all rows add are the rows of their groups
pub all_summed : (window : Period) (column summed : ℕ) (rows out : List Fragment) (t : ℕ) (v : List Value)
    → copies out v t ≡ cond (holds window t) (shown_copies (take 1 v) (keyed_weight column window One t (take 1 v) rows ∷ keyed_weight column window (Column summed) t (take 1 v) rows ∷ []) v) 0
    → copies out v t ≡ cond (holds window t) (occurrences (grouped_rows (column ∷ []) (summed ∷ []) (at rows t)) v) 0
all_summed window column summed rows out t v is = is ∙ split (holds window t) refl
  where
    split : (b : Bool) → holds window t ≡ b
        → cond (holds window t) (shown_copies (take 1 v) (keyed_weight column window One t (take 1 v) rows ∷ keyed_weight column window (Column summed) t (take 1 v) rows ∷ []) v) 0
        ≡ cond b (occurrences (grouped_rows (column ∷ []) (summed ∷ []) (at rows t)) v) 0
    split true inside =
        ap (λ b. cond b (shown_copies (take 1 v) (keyed_weight column window One t (take 1 v) rows ∷ keyed_weight column window (Column summed) t (take 1 v) rows ∷ []) v) 0) inside
        ∙ (λ j. shown_copies (take 1 v) (all_add window t inside (of_key (column ∷ []) (take 1 v) One) rows j ∷ all_add window t inside (of_key (column ∷ []) (take 1 v) (Column summed)) rows j ∷ []) v)
        ∙ sym (grouped_occurrences (column ∷ []) (summed ∷ []) (at rows t) v)
    split false outside =
        ap (λ b. cond b (shown_copies (take 1 v) (keyed_weight column window One t (take 1 v) rows ∷ keyed_weight column window (Column summed) t (take 1 v) rows ∷ []) v) 0) outside
