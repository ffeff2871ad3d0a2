-- The rows that buckets make, one bucket after another, are those of the groups.
use Rattle.std.proofs.Common.{◌≡◌, ◌≢◌, ℕ, ◌+◌, ◌<◌, ℤ, pos, ◌+ℤ◌, Bool, true, false, cond, List, [], ◌∷◌, length, take, get_or, refl, sym, subst, ap, ◌∙◌, arith, length-take}
use Rattle.std.specs.Prelude.{All}
use Rattle.std.proofs.lemmas.Bool.{false≢true}
use Rattle.std.proofs.lemmas.Int.{ints}
use Rattle.std.proofs.lemmas.List.{get_or-map, get_or-take}
use Rattle.std.proofs.lemmas.List.Elements.{All-head, All-tail}
use Rattle.tq_base.specs.declared.fragment.Fragment.{Fragment}
use Rattle.tq_base.specs.declared.period.Period.{Period}
use Rattle.tq_base.specs.declared.value.Value.{Value}
use Rattle.tq_base.specs.Fragments.{at, copies, occurrences}
use Rattle.tq_base.specs.Periods.{holds}
use Rattle.tq_base.specs.NormalizedKeys.{normalized_key}
use Rattle.tq_base.specs.ValueOrder.{eq_from_same, same_from_eq}
use Rattle.tq_agg.specs.declared.buckets.Bucket.{Bucket}
use Rattle.tq_agg.specs.declared.summands.Summand.TheVariants.{One}
use Rattle.tq_agg.specs.Buckets.{bucket_count, counted, keyed_count, value_of, AreRanked}
use Rattle.tq_agg.specs.Endpoints.{count_upto}
use Rattle.tq_agg.specs.Grouping.{grouped_rows, same_row}
use Rattle.tq_agg.specs.Totals.{shown_copies}
use Rattle.tq_agg.proofs.Adding.{added-step}
use Rattle.tq_agg.proofs.Bucketing.{as_many}
use Rattle.tq_agg.proofs.Gathering.{all_add}
use Rattle.tq_agg.proofs.GroupRows.{grouped_occurrences}
use Rattle.tq_agg.proofs.Grouping.{nothing, of_key, other_shown}

-- buckets of other keys count none
none_counted : (column : List Value) (t : ℕ) (key : List Value) (buckets : List Bucket) → All (λ b. value_of column b ∷ [] ≢ key) buckets → counted column t key buckets ≡ pos 0
none_counted column t key [] apart = refl
none_counted column t key (b ∷ buckets) apart =
    omega (arith, ints, first (same_row (value_of column b ∷ []) key) refl, none_counted column t key buckets (All-tail (λ b. value_of column b ∷ [] ≢ key) b buckets apart))
  where
    first : (s : Bool) → same_row (value_of column b ∷ []) key ≡ s → cond s (count_upto b.endpoints.starts.items b.endpoints.ends.items t) (pos 0) ≡ pos 0
    first true is = absurd (All-head (λ b. value_of column b ∷ [] ≢ key) b buckets apart (same_from_eq (value_of column b ∷ []) key is))
    first false is = refl

module _ (column : List Value) (window : Period) (ranks : List ℕ) (buckets : List Bucket) (are : AreRanked column ranks buckets) (i : ℕ) (lt : i < length buckets) (b : Bucket) (is : b ≡ get_or buckets i b) where
  -- no bucket before has the value
  pub others_before : All (λ x. value_of column x ∷ [] ≢ value_of column b ∷ []) (take i buckets)
  others_before k d below same =
      let before : k < i = omega (arith, below, length-take i buckets) in
      let prefix : Bucket → ℕ = λ x. normalized_key (value_of column x) in
      let one : get_or (take i buckets) k d ≡ get_or buckets k d = get_or-take i buckets k d before in
      let less : get_or ranks k 0 < get_or ranks i 0 = are.1 k i 0 before (omega (arith, lt, as_many column ranks buckets are i)) in
      let at_k : get_or ranks k 0 ≡ prefix (get_or buckets k d) = ap (λ l. get_or l k 0) are.0 ∙ get_or-map prefix buckets k d 0 (omega (arith, before, lt)) in
      let at_i : get_or ranks i 0 ≡ prefix b = ap (λ l. get_or l i 0) are.0 ∙ get_or-map prefix buckets i b 0 lt ∙ ap prefix (sym is) in
      let alike : prefix (get_or buckets k d) ≡ prefix b = ap prefix (sym one) ∙ ap (λ l. normalized_key (first_of l)) same in
      absurd (omega (arith, less, at_k, at_i, alike))
    where
      first_of : List Value → Value
      first_of [] = value_of column b
      first_of (v ∷ l) = v

  -- so what the bucket counts is shown, and all others as before
  pub adds_bucket : (t : ℕ) (v : List Value) (old new : ℕ) → old ≡ cond (holds window t) (shown_copies (take 1 v) (counted column t (take 1 v) (take i buckets) ∷ []) v) 0
      → new ≡ old + cond (holds window t) (shown_copies (value_of column b ∷ []) (count_upto b.endpoints.starts.items b.endpoints.ends.items t ∷ []) v) 0
      → new ≡ cond (holds window t) (shown_copies (take 1 v) (counted column t (take 1 v) (take (i + 1) buckets) ∷ []) v) 0
  adds_bucket t v old new before more =
      split (same_row (value_of column b ∷ []) (take 1 v)) refl
    where
      count : ℤ
      count = count_upto b.endpoints.starts.items b.endpoints.ends.items t

      step : counted column t (take 1 v) (take (i + 1) buckets) ≡ counted column t (take 1 v) (take i buckets) +ℤ bucket_count column t (take 1 v) b
      step = added-step (bucket_count column t (take 1 v)) buckets i b lt is

      split : (s : Bool) → same_row (value_of column b ∷ []) (take 1 v) ≡ s → new ≡ cond (holds window t) (shown_copies (take 1 v) (counted column t (take 1 v) (take (i + 1) buckets) ∷ []) v) 0
      split true equal =
          let same : value_of column b ∷ [] ≡ take 1 v = same_from_eq (value_of column b ∷ []) (take 1 v) equal in
          let none : counted column t (take 1 v) (take i buckets) ≡ pos 0 = none_counted column t (take 1 v) (take i buckets) (subst (λ k. All (λ x. value_of column x ∷ [] ≢ k) (take i buckets)) same others_before) in
          let all : counted column t (take 1 v) (take (i + 1) buckets) ≡ count_upto b.endpoints.starts.items b.endpoints.ends.items t =
          omega (arith, ints, step, none, ap (λ s. cond s (count_upto b.endpoints.starts.items b.endpoints.ends.items t) (pos 0)) equal) in
          let no_old : old ≡ 0 = before ∙ ap (λ n. cond (holds window t) (shown_copies (take 1 v) (n ∷ []) v) 0) none ∙ nothing (holds window t) in
          let shown : cond (holds window t) (shown_copies (value_of column b ∷ []) (count_upto b.endpoints.starts.items b.endpoints.ends.items t ∷ []) v) 0
          ≡ cond (holds window t) (shown_copies (take 1 v) (counted column t (take 1 v) (take (i + 1) buckets) ∷ []) v) 0 =
          ap (λ k. cond (holds window t) (shown_copies k (count_upto b.endpoints.starts.items b.endpoints.ends.items t ∷ []) v) 0) same
          ∙ ap (λ n. cond (holds window t) (shown_copies (take 1 v) (n ∷ []) v) 0) (sym all) in
          omega (arith, more, no_old, shown)
      split false differ =
          let differs : value_of column b ∷ [] ≢ take 1 v = λ same. false≢true (sym differ ∙ eq_from_same (value_of column b ∷ []) (take 1 v) same) in
          let all : counted column t (take 1 v) (take (i + 1) buckets) ≡ counted column t (take 1 v) (take i buckets) =
          omega (arith, ints, step, ap (λ s. cond s (count_upto b.endpoints.starts.items b.endpoints.ends.items t) (pos 0)) differ) in
          let other : cond (holds window t) (shown_copies (value_of column b ∷ []) (count_upto b.endpoints.starts.items b.endpoints.ends.items t ∷ []) v) 0 ≡ 0 =
          ap (λ n. cond (holds window t) n 0) (other_shown (value_of column b ∷ []) 1 (count_upto b.endpoints.starts.items b.endpoints.ends.items t ∷ []) v refl differs) ∙ nothing (holds window t) in
          omega (arith, more, other, before, ap (λ n. cond (holds window t) (shown_copies (take 1 v) (n ∷ []) v) 0) all)

-- what all rows count are the rows of their groups
pub all_shown : (window : Period) (column : ℕ) (rows out : List Fragment) (t : ℕ) (v : List Value) → copies out v t ≡ cond (holds window t) (shown_copies (take 1 v) (keyed_count column window t (take 1 v) rows ∷ []) v) 0
    → copies out v t ≡ cond (holds window t) (occurrences (grouped_rows (column ∷ []) [] (at rows t)) v) 0
all_shown window column rows out t v is = is ∙ split (holds window t) refl
  where
    split : (b : Bool) → holds window t ≡ b
        → cond (holds window t) (shown_copies (take 1 v) (keyed_count column window t (take 1 v) rows ∷ []) v) 0 ≡ cond b (occurrences (grouped_rows (column ∷ []) [] (at rows t)) v) 0
    split true inside =
        ap (λ b. cond b (shown_copies (take 1 v) (keyed_count column window t (take 1 v) rows ∷ []) v) 0) inside
        ∙ ap (λ n. shown_copies (take 1 v) (n ∷ []) v) (all_add window t inside (of_key (column ∷ []) (take 1 v) One) rows)
        ∙ sym (grouped_occurrences (column ∷ []) [] (at rows t) v)
    split false outside = ap (λ b. cond b (shown_copies (take 1 v) (keyed_count column window t (take 1 v) rows ∷ []) v) 0) outside
