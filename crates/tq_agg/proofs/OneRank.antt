-- The rows of one prefix go into one bucket, from one partial aggregate after another.
use Rattle.std.proofs.Common.{◌≡◌, ◌≢◌, ℕ, zero, suc, ◌+◌, ◌<◌, ◌≤◌, ℤ, pos, ◌+ℤ◌, ◌==◌, ◌⊎◌, inl, inr, Bool, true, false, cond, nat_le, List, [], ◌∷◌, ◌++◌, length, take, drop, map, get_or, refl, sym, subst, ap, ◌∙◌, arith}
use Rattle.std.specs.Prelude.{All}
use Rattle.std.proofs.lemmas.Bool.Decides.{nat_tests}
use Rattle.std.proofs.lemmas.Int.{ints}
use Rattle.std.proofs.lemmas.List.{get_or-map, length-map, take-append-drop}
use Rattle.std.proofs.lemmas.List.Elements.{All-append, All-head, All-tail, All-weaker}
use Rattle.std.proofs.lemmas.List.Sums.{sum_by-append}
use Rattle.tq_base.specs.declared.value.Value.{Value}
use Rattle.tq_base.specs.NormalizedKeys.{normalized_key}
use Rattle.tq_base.specs.Sweep.{pairs_head, pairs_tail, upto}
use Rattle.tq_agg.specs.declared.buckets.Bucket.{Bucket}
use Rattle.tq_agg.specs.Buckets.{bucket_count, counted_at, value_of, AreRanked, IsFound, HasExactKey}
use Rattle.tq_agg.specs.Endpoints.{count_upto}
use Rattle.tq_agg.specs.Grouping.{same_row}
use Rattle.tq_agg.specs.Totals.{added}
use Rattle.tq_agg.proofs.Bucketing.{all_above, as_many, below, front_below, exact_alone, Rising}

-- ---- elements of one prefix

module _ {X : Type 0} (f : X → ℕ) (w : X → ℤ) (prefix : ℕ) where
  -- another prefix
  abbrev Apart : ℕ → Type 0
  Apart r = (r < prefix) ⊎ (prefix < r)

  another : (r : ℕ) → Apart r → (r == prefix) ≡ false
  another r (inl less) = grind (arith, nat_tests)
  another r (inr more) = grind (arith, nat_tests)

  -- if all have another prefix, nothing is added
  pub none_ranked : (xs : List X) → All Apart (map f xs) → added (λ x. cond (f x == prefix) (w x) (pos 0)) xs ≡ pos 0
  none_ranked [] apart = refl
  none_ranked (x ∷ xs) apart =
      omega (arith, ints, ap (λ b. cond b (w x) (pos 0)) (another (f x) (All-head Apart (f x) (map f xs) apart)), none_ranked xs (All-tail Apart (f x) (map f xs) apart))

  -- if the prefixes ascend, only the one at the place is added
  pub one_ranked : (xs : List X) → Rising (map f xs) → (place : ℕ) → place < length xs → (d : X) → f (get_or xs place d) ≡ prefix → added (λ x. cond (f x == prefix) (w x) (pos 0)) xs ≡ w (get_or xs place d)
  one_ranked [] rise place lt d is = absurd (omega (arith, lt))
  one_ranked (x ∷ xs) rise zero lt d is =
      let same : (f x == prefix) ≡ true = grind (arith, nat_tests) in
      let rest : All Apart (map f xs) = All-weaker (λ r. f x < r) Apart (λ r less. inr (omega (arith, less, is))) (map f xs) (pairs_head (λ r q. r < q) (f x) (map f xs) rise) in
      omega (arith, ints, ap (λ b. cond b (w x) (pos 0)) same, none_ranked xs rest)
  one_ranked (x ∷ xs) rise (suc place) lt d is =
      let there : get_or (map f xs) place 0 ≡ f (get_or xs place d) = get_or-map f xs place d 0 (omega (arith, lt)) in
      let less : f x < get_or (map f xs) place 0 = pairs_head (λ r q. r < q) (f x) (map f xs) rise place 0 (omega (arith, lt, length-map xs f)) in
      let other : (f x == prefix) ≡ false = another (f x) (inl (omega (arith, less, there, is))) in
      omega (arith, ints, ap (λ b. cond b (w x) (pos 0)) other, one_ranked xs (pairs_tail (λ r q. r < q) (f x) (map f xs) rise) place (omega (arith, lt)) d is)

-- ---- the bucket of a prefix

module _ (column : List Value) (ranks : List ℕ) (buckets : List Bucket) (are : AreRanked column ranks buckets) (prefix place : ℕ) (t : ℕ) (key : List Value) where
  -- the prefix of the bucket at the place
  pub rank_there : place < length ranks → get_or ranks place 0 ≡ prefix → (d : Bucket) → normalized_key (value_of column (get_or buckets place d)) ≡ prefix
  rank_there lt is d = sym (get_or-map (λ b. normalized_key (value_of column b)) buckets place d 0 (omega (arith, lt, as_many column ranks buckets are 0))) ∙ ap (λ l. get_or l place 0) (sym are.0) ∙ is

  -- only it is counted
  pub one_counted : place < length ranks → get_or ranks place 0 ≡ prefix → (d : Bucket) → counted_at column prefix t key buckets ≡ bucket_count column t key (get_or buckets place d)
  one_counted lt is d =
      one_ranked (λ b. normalized_key (value_of column b)) (bucket_count column t key) prefix buckets (subst Rising are.0 are.1) place (omega (arith, lt, as_many column ranks buckets are 0)) d (rank_there lt is d)

  -- none is, if no bucket has it
  pub none_counted_at : place ≡ below prefix ranks → (place < length ranks → get_or ranks place 0 ≢ prefix) → counted_at column prefix t key buckets ≡ pos 0
  none_counted_at there differs =
      let fronts = front_below prefix ranks are.1 in
      let before : All (λ r. r < prefix) (take place ranks) = subst (λ n. All (λ r. r < prefix) (take n ranks)) (sym there) fronts.0 in
      let least : All (λ r. prefix ≤ r) (drop place ranks) = subst (λ n. All (λ r. prefix ≤ r) (drop n ranks)) (sym there) fronts.1 in
      let after : All (λ r. prefix < r) (drop place ranks) = all_above prefix place ranks are.1 least differs in
      let apart : All (λ r. (r < prefix) ⊎ (prefix < r)) ranks =
      subst (All (λ r. (r < prefix) ⊎ (prefix < r))) (take-append-drop place ranks)
      (All-append (λ r. (r < prefix) ⊎ (prefix < r)) (take place ranks) (drop place ranks) (All-weaker (λ r. r < prefix) (λ r. (r < prefix) ⊎ (prefix < r)) (λ r less. inl less) (take place ranks) before)
      (All-weaker (λ r. prefix < r) (λ r. (r < prefix) ⊎ (prefix < r)) (λ r more. inr more) (drop place ranks) after)) in
      none_ranked (λ b. normalized_key (value_of column b)) (bucket_count column t key) prefix buckets (subst (All (λ r. (r < prefix) ⊎ (prefix < r))) are.0 apart)

-- the bounds of both lists
pub both_upto : (front back : List ℕ) (t : ℕ) → upto (front ++ back) t ≡ upto front t + upto back t
both_upto front back t = sum_by-append (λ b. cond (nat_le b t) 1 0) front back

-- the rows of a bucket of the prefix are added to those found so far
pub both_counted : (column : List Value) (prefix : ℕ) (t : ℕ) (key : List Value) (old found new : Bucket) → IsFound column prefix old → HasExactKey (value_of column found) → normalized_key (value_of column found) ≡ prefix → new.row ≡ found.row
    → new.endpoints.starts.items ≡ old.endpoints.starts.items ++ found.endpoints.starts.items → new.endpoints.ends.items ≡ old.endpoints.ends.items ++ found.endpoints.ends.items
    → bucket_count column t key new ≡ bucket_count column t key old +ℤ bucket_count column t key found
both_counted column prefix t key old found new is exact of row starts ends = by is
  where
    more : count_upto new.endpoints.starts.items new.endpoints.ends.items t ≡ count_upto old.endpoints.starts.items old.endpoints.ends.items t +ℤ count_upto found.endpoints.starts.items found.endpoints.ends.items t
    more =
        omega (
          arith,
          ints,
          ap (λ l. upto l t) starts,
          ap (λ l. upto l t) ends,
          both_upto old.endpoints.starts.items found.endpoints.starts.items t,
          both_upto old.endpoints.ends.items found.endpoints.ends.items t,
        )

    same : value_of column new ≡ value_of column found
    same = ap (λ n. value_of column (record { row = n; endpoints = new.endpoints; changes = new.changes })) row

    nothing : (s : Bool) → cond s (pos 0) (pos 0) ≡ pos 0
    nothing true = refl
    nothing false = refl

    with_none : (s r : Bool) → count_upto old.endpoints.starts.items old.endpoints.ends.items t ≡ pos 0
        → cond s (count_upto new.endpoints.starts.items new.endpoints.ends.items t) (pos 0)
        ≡ cond r (count_upto old.endpoints.starts.items old.endpoints.ends.items t) (pos 0) +ℤ cond s (count_upto found.endpoints.starts.items found.endpoints.ends.items t) (pos 0)
    with_none true r none = omega (arith, ints, more, none, ap (λ n. cond r n (pos 0)) none, nothing r)
    with_none false r none = omega (arith, ints, ap (λ n. cond r n (pos 0)) none, nothing r)

    with_some : (s : Bool)
        → cond s (count_upto new.endpoints.starts.items new.endpoints.ends.items t) (pos 0)
        ≡ cond s (count_upto old.endpoints.starts.items old.endpoints.ends.items t) (pos 0) +ℤ cond s (count_upto found.endpoints.starts.items found.endpoints.ends.items t) (pos 0)
    with_some true = more
    with_some false = omega (arith, ints)

    as_found : bucket_count column t key new ≡ cond (same_row (value_of column found ∷ []) key) (count_upto new.endpoints.starts.items new.endpoints.ends.items t) (pos 0)
    as_found = ap (λ v. cond (same_row (v ∷ []) key) (count_upto new.endpoints.starts.items new.endpoints.ends.items t) (pos 0)) same

    by : IsFound column prefix old → bucket_count column t key new ≡ bucket_count column t key old +ℤ bucket_count column t key found
    by (inl empty) =
        as_found
        ∙ with_none (same_row (value_of column found ∷ []) key) (same_row (value_of column old ∷ []) key)
        (ap (λ l. count_upto l old.endpoints.ends.items t) empty.0 ∙ ap (λ l. count_upto [] l t) empty.1 ∙ omega (arith, ints))
    by (inr is) =
        let alike : value_of column old ≡ value_of column found = exact_alone (value_of column old) (value_of column found) is.0 exact.0 (is.1 ∙ sym of) in
        as_found
        ∙ with_some (same_row (value_of column found ∷ []) key)
        ∙ ap (λ v. cond (same_row (v ∷ []) key) (count_upto old.endpoints.starts.items old.endpoints.ends.items t) (pos 0) +ℤ bucket_count column t key found) (sym alike)
