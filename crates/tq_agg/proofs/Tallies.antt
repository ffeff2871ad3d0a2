-- The rows of one prefix, of the buckets of all partial aggregates, are those of the groups of its partition.
use Rattle.std.proofs.Common.{◌≡◌, ◌≢◌, ℕ, zero, suc, ◌+◌, ◌<◌, ◌≤◌, ℤ, pos, inl, inr, Bool, true, false, ◌==◌, ◌&&◌, ◌||◌, cond, nat_le, List, [], ◌∷◌, length, take, filter, get_or, refl, sym, subst, ap, ◌∙◌, arith}
use Rattle.std.specs.Prelude.{All}
use Rattle.std.specs.List.{list_any}
use Rattle.std.proofs.lemmas.Bool.{cases_lt, eqb-true, false≢true}
use Rattle.std.proofs.lemmas.Bool.Decides.{nat_tests}
use Rattle.std.proofs.lemmas.Int.{ints}
use Rattle.std.proofs.lemmas.List.{get_or-map, get_or_default, take_all}
use Rattle.std.proofs.lemmas.List.Elements.{All-head, All-tail}
use Rattle.tq_base.specs.declared.fragment.Fragment.{Fragment}
use Rattle.tq_base.specs.declared.period.Period.{Period}
use Rattle.tq_base.specs.declared.value.Value.{Value}
use Rattle.tq_base.specs.Fragments.{at, copies, occurrences}
use Rattle.tq_base.specs.Periods.{holds}
use Rattle.tq_base.specs.NormalizedKeys.{normalized_key}
use Rattle.tq_base.specs.Relations.{column_of}
use Rattle.tq_base.specs.Sweep.{pairs_head, pairs_tail}
use Rattle.tq_base.specs.ValueOrder.{eq_from_same, same_from_eq}
use Rattle.tq_base.specs.RowValues.{value_at}
use Rattle.tq_agg.specs.declared.buckets.Bucket.{Bucket}
use Rattle.tq_agg.specs.declared.buckets.Tally.{Tally}
use Rattle.tq_agg.specs.Buckets.{bucket_count, counted, counted_at, counted_in, keyed_count, rank_share, value_of, AreRanked, AreRanksOf, AreTallies, IsAmong, IsTally}
use Rattle.tq_agg.specs.Endpoints.{count_upto}
use Rattle.tq_agg.specs.Grouping.{grouped_rows, same_row}
use Rattle.tq_agg.specs.Totals.{added, shown_copies}
use Rattle.tq_agg.proofs.Adding.{added-filter, added-same, added-step}
use Rattle.tq_agg.proofs.BucketRows.{all_shown}
use Rattle.tq_agg.proofs.Bucketing.{as_many, Rising}
use Rattle.tq_agg.proofs.Grouping.{other_shown}

-- ---- prefixes that ascend

-- of numbers that are all above one, none is at most it
none_upto : (x : ℕ) (xs : List ℕ) → All (λ r. x < r) xs → length (filter (λ cut. nat_le cut x) xs) ≡ 0
none_upto x [] all = refl
none_upto x (r ∷ xs) all =
    let first : x < r = All-head (λ r. x < r) r xs all in
    let above : nat_le r x ≡ false = grind (arith, nat_tests) in
    ap (λ b. length (cond b (r ∷ filter (λ cut. nat_le cut x) xs) (filter (λ cut. nat_le cut x) xs))) above ∙ none_upto x xs (All-tail (λ r. x < r) r xs all)

-- the first is the least
first_least : (r : ℕ) (xs : List ℕ) → Rising (r ∷ xs) → (i : ℕ) → i < length (r ∷ xs) → r ≤ get_or (r ∷ xs) i 0
first_least r xs rise zero lt = omega arith
first_least r xs rise (suc i) lt = let less : r < get_or xs i 0 = pairs_head (λ r q. r < q) r xs rise i 0 (omega (arith, lt)) in omega (arith, less)

-- without the first, the number of those that are at most the one at a place is the place
rank_place : (r : ℕ) (xs : List ℕ) → Rising (r ∷ xs) → (i : ℕ) → i < length (r ∷ xs) → length (filter (λ cut. nat_le cut (get_or (r ∷ xs) i 0)) xs) ≡ i
rank_place r xs rise zero lt = none_upto r xs (pairs_head (λ r q. r < q) r xs rise)
rank_place r [] rise (suc i) lt = absurd (omega (arith, lt))
rank_place r (q ∷ xs) rise (suc i) lt =
    let x = get_or (q ∷ xs) i 0 in
    let rest : Rising (q ∷ xs) = pairs_tail (λ r q. r < q) r (q ∷ xs) rise in
    let least : q ≤ x = first_least q xs rest i (omega (arith, lt)) in
    let upto : nat_le q x ≡ true = grind (arith, nat_tests) in
    ap (λ b. length (cond b (q ∷ filter (λ cut. nat_le cut x) xs) (filter (λ cut. nat_le cut x) xs))) upto ∙ ap suc (rank_place q xs rest i (omega (arith, lt)))

-- so a value whose prefix is at a place is of the partition with the number of the place
share_place : (ranks : List ℕ) → Rising ranks → (w : Value) (i : ℕ) → i < length ranks → get_or ranks i 0 ≡ normalized_key w → rank_share ranks w ≡ i
share_place [] rise w i lt is = absurd (omega (arith, lt))
share_place (r ∷ ranks) rise w i lt is = subst (λ n. length (filter (λ cut. nat_le cut n) ranks) ≡ i) is (rank_place r ranks rise i lt)

-- two of them are the same exactly if their places are
same_place : (ranks : List ℕ) → Rising ranks → (i j : ℕ) → i < length ranks → j < length ranks → (get_or ranks i 0 == get_or ranks j 0) ≡ (i == j)
same_place ranks rise i j i_lt j_lt = elim (cases_lt i j) [
  | inl before ↦ let less : get_or ranks i 0 < get_or ranks j 0 = rise i j 0 before j_lt in grind (arith, nat_tests)
  | inr from ↦ elim (cases_lt j i) [
    | inl behind ↦ let less : get_or ranks j 0 < get_or ranks i 0 = rise j i 0 behind i_lt in grind (arith, nat_tests)
    | inr upto ↦
        let same : i ≡ j = omega (arith, from, upto) in
        let alike : get_or ranks i 0 ≡ get_or ranks j 0 = ap (λ n. get_or ranks n 0) same in
        grind (arith, nat_tests)
  ]
]

-- the place of one of them
pub place_of_one : (ranks : List ℕ) (prefix : ℕ) → IsAmong ranks prefix → (i : ℕ) × (i < length ranks) × (get_or ranks i 0 ≡ prefix)
place_of_one [] prefix among = absurd (false≢true among)
place_of_one (r ∷ ranks) prefix among = by (r == prefix) refl (λ later. place_of_one ranks prefix later)
  where
    by : (b : Bool) → (r == prefix) ≡ b → (IsAmong ranks prefix → (i : ℕ) × (i < length ranks) × (get_or ranks i 0 ≡ prefix)) → (i : ℕ) × (i < length (r ∷ ranks)) × (get_or (r ∷ ranks) i 0 ≡ prefix)
    by true is later = (0, omega arith, eqb-true r prefix is)
    by false is later =
        let (i, lt, there) = later (sym (ap (λ b. b || list_any (λ q. q == prefix) ranks) is) ∙ among) in
        (suc i, omega (arith, lt), there)

-- the one at a place is one of them
pub one_at : (ranks : List ℕ) (prefix i : ℕ) → i < length ranks → get_or ranks i 0 ≡ prefix → IsAmong ranks prefix
one_at [] prefix i lt is = absurd (omega (arith, lt))
one_at (r ∷ ranks) prefix zero lt is = let same : (r == prefix) ≡ true = grind (arith, nat_tests) in ap (λ b. b || list_any (λ q. q == prefix) ranks) same
one_at (r ∷ ranks) prefix (suc i) lt is = ap (λ b. (r == prefix) || b) (one_at ranks prefix i (omega (arith, lt)) is) ∙ either (r == prefix)
  where
    either : (b : Bool) → (b || true) ≡ true
    either true = refl
    either false = refl

-- a value whose prefix is one of them has the prefix at a place exactly if it is of the partition of this place
same_test : (ranks : List ℕ) → Rising ranks → (number : ℕ) → number < length ranks → (w : Value) → IsAmong ranks (normalized_key w) → (normalized_key w == get_or ranks number 0) ≡ (rank_share ranks w == number)
same_test ranks rise number lt w among =
    let (i, within, is) = place_of_one ranks (normalized_key w) among in
    ap (λ n. n == get_or ranks number 0) (sym is)
    ∙ same_place ranks rise i number within lt
    ∙ ap (λ n. n == number) (sym (share_place ranks rise w i within is))

-- ---- sums

-- in any case nothing
none : (b : Bool) → cond b (pos 0) (pos 0) ≡ pos 0
none true = refl
none false = refl

-- the sum if each weighs nothing
added-nothing : {X : Type 0} (xs : List X) → added (λ (x : X). pos 0) xs ≡ pos 0
added-nothing [] = refl
added-nothing {X} (x ∷ xs) = omega (arith, ints, added-nothing xs)

-- two sums are the same if each element of the list weighs the same in both
added-alike : {X : Type 0} (v w : X → ℤ) (xs : List X) → All (λ x. v x ≡ w x) xs → added v xs ≡ added w xs
added-alike v w [] alike = refl
added-alike v w (x ∷ xs) alike = omega (arith, ints, All-head (λ x. v x ≡ w x) x xs alike, added-alike v w xs (All-tail (λ x. v x ≡ w x) x xs alike))

-- if one test decides for all elements, the sum is that of all or of none
added-test : {X : Type 0} (b : Bool) (w : X → ℤ) (xs : List X) → added (λ x. cond b (w x) (pos 0)) xs ≡ cond b (added w xs) (pos 0)
added-test true w xs = refl
added-test false w xs = added-nothing xs

-- ---- the rows of a partition

-- whether a value of the key is of the partition; for a key without a value, either
abbrev IsShareOf : List ℕ → ℕ → List Value → Bool → Type 0
IsShareOf ranks number key is = (w : Value) → same_row (w ∷ []) key ≡ true → (rank_share ranks w == number) ≡ is

module _ (ranks : List ℕ) (number : ℕ) (key : List Value) (is : Bool) (tells : IsShareOf ranks number key is) where
  -- what is counted of a value is of the partition if the key is, since a value of another key counts nothing
  value_left : (w : Value) (count : ℤ) → cond (rank_share ranks w == number) (cond (same_row (w ∷ []) key) count (pos 0)) (pos 0) ≡ cond is (cond (same_row (w ∷ []) key) count (pos 0)) (pos 0)
  value_left w count = split (same_row (w ∷ []) key) refl
    where
      split : (s : Bool) → same_row (w ∷ []) key ≡ s → cond (rank_share ranks w == number) (cond s count (pos 0)) (pos 0) ≡ cond is (cond s count (pos 0)) (pos 0)
      split true same = ap (λ b. cond b count (pos 0)) (tells w same)
      split false differ = none (rank_share ranks w == number) ∙ sym (none is)

  -- the rows of the partition are all rows of the key or none of them
  rows_left : (column : ℕ) (window : Period) (t : ℕ) (rows : List Fragment)
      → keyed_count column window t key (filter (λ (row : Fragment). rank_share ranks (value_at row.values column) == number) rows) ≡ cond is (keyed_count column window t key rows) (pos 0)
  rows_left column window t rows =
      let of_share : Fragment → Bool = λ row. rank_share ranks (value_at row.values column) == number in
      let weight : Fragment → ℤ = λ row. cond (holds row.period t && holds window t) (cond (same_row (value_at row.values column ∷ []) key) (pos 1) (pos 0)) (pos 0) in
      added-filter of_share weight rows
      ∙ added-same (λ row. cond (of_share row) (weight row) (pos 0)) (λ row. cond is (weight row) (pos 0)) (λ row. each row (holds row.period t && holds window t)) rows
      ∙ added-test is weight rows
    where
      each : (row : Fragment) (held : Bool) → cond (rank_share ranks (value_at row.values column) == number) (cond held (cond (same_row (value_at row.values column ∷ []) key) (pos 1) (pos 0)) (pos 0)) (pos 0)
          ≡ cond is (cond held (cond (same_row (value_at row.values column ∷ []) key) (pos 1) (pos 0)) (pos 0)) (pos 0)
      each row true = value_left (value_at row.values column) (pos 1)
      each row false = none (rank_share ranks (value_at row.values column) == number) ∙ sym (none is)

  module _ (rise : Rising ranks) (lt : number < length ranks) (column : List Value) (t : ℕ) where
    -- so is what a bucket counts, if its prefix is the one with this number
    bucket_left : (b : Bucket) → IsAmong ranks (normalized_key (value_of column b))
        → cond (normalized_key (value_of column b) == get_or ranks number 0) (bucket_count column t key b) (pos 0) ≡ cond is (bucket_count column t key b) (pos 0)
    bucket_left b among =
        ap (λ s. cond s (bucket_count column t key b) (pos 0)) (same_test ranks rise number lt (value_of column b) among)
        ∙ value_left (value_of column b) (count_upto b.endpoints.starts.items b.endpoints.ends.items t)

    -- what the buckets of one partial aggregate count
    buckets_left : (own : List ℕ) (buckets : List Bucket) → AreRanked column own buckets → All (IsAmong ranks) own
        → counted_at column (get_or ranks number 0) t key buckets ≡ cond is (counted column t key buckets) (pos 0)
    buckets_left own buckets are among =
        added-alike (λ (b : Bucket). cond (normalized_key (value_of column b) == get_or ranks number 0) (bucket_count column t key b) (pos 0)) (λ (b : Bucket). cond is (bucket_count column t key b) (pos 0)) buckets
        (λ k d inside. bucket_left (get_or buckets k d)
        (subst (IsAmong ranks) (ap (λ l. get_or l k 0) are.0 ∙ get_or-map (λ b. normalized_key (value_of column b)) buckets k d 0 inside)
        (among k 0 (omega (arith, inside, as_many column own buckets are k)))))
        ∙ added-test is (bucket_count column t key) buckets

    -- and those of all
    tallies_left : (tallies : List Tally) → All (λ (b : Tally). AreRanked column b.ranks.items b.list.items) tallies → All (λ (b : Tally). All (IsAmong ranks) b.ranks.items) tallies
        → counted_in column (get_or ranks number 0) t key tallies ≡ cond is (added (λ (b : Tally). counted column t key b.list.items) tallies) (pos 0)
    tallies_left tallies are among =
        added-alike (λ (b : Tally). counted_at column (get_or ranks number 0) t key b.list.items) (λ (b : Tally). cond is (counted column t key b.list.items) (pos 0)) tallies
        (λ k d inside. buckets_left (get_or tallies k d).ranks.items (get_or tallies k d).list.items (are k d inside) (among k d inside))
        ∙ added-test is (λ (b : Tally). counted column t key b.list.items) tallies

-- the first value of a row; the other value if there is none
abbrev first_of : Value → List Value → Value
first_of w [] = w
first_of w (x ∷ row) = x

-- whether a row has a first value, and it is of the partition
abbrev begins_in_share : List ℕ → ℕ → List Value → Bool
begins_in_share ranks number [] = false
begins_in_share ranks number (x ∷ v) = rank_share ranks x == number

-- which is what decides for the key that the row begins with
first_tells : (ranks : List ℕ) (number : ℕ) (v : List Value) → IsShareOf ranks number (take 1 v) (begins_in_share ranks number v)
first_tells ranks number [] w same = absurd (false≢true same)
first_tells ranks number (x ∷ v) w same = ap (λ row. rank_share ranks (first_of w row) == number) (same_from_eq (w ∷ []) (take 1 (x ∷ v)) same)

-- the counts of the rows of a prefix are those of the groups of its partition
pub share_shown : (rows : List Fragment) (window : Period) (column : ℕ) (tallies : List Tally) (ranks : List ℕ) (number : ℕ) → AreTallies rows window column tallies → AreRanksOf ranks tallies → number < length ranks → (out : List Fragment)
    → ((t : ℕ) (v : List Value) → copies out v t ≡ cond (holds window t) (shown_copies (take 1 v) (counted_in (column_of rows column) (get_or ranks number 0) t (take 1 v) tallies ∷ []) v) 0)
    → (t : ℕ) (v : List Value) → copies out v t ≡ cond (holds window t) (occurrences (grouped_rows (column ∷ []) [] (at (filter (λ (row : Fragment). rank_share ranks (value_at row.values column) == number) rows) t)) v) 0
share_shown rows window column tallies ranks number are of lt out shown t v =
    all_shown window column (filter (λ (row : Fragment). rank_share ranks (value_at row.values column) == number) rows) out t v
    (shown t v ∙ ap (λ n. cond (holds window t) (shown_copies (take 1 v) (n ∷ []) v) 0) counts)
  where
    tells : IsShareOf ranks number (take 1 v) (begins_in_share ranks number v)
    tells = first_tells ranks number v

    counts : counted_in (column_of rows column) (get_or ranks number 0) t (take 1 v) tallies
        ≡ keyed_count column window t (take 1 v) (filter (λ (row : Fragment). rank_share ranks (value_at row.values column) == number) rows)
    counts =
        tallies_left ranks number (take 1 v) (begins_in_share ranks number v) tells of.rise lt (column_of rows column) t tallies are.ranked of.among
        ∙ ap (λ n. cond (begins_in_share ranks number v) n (pos 0)) (are.counts t (take 1 v))
        ∙ sym (rows_left ranks number (take 1 v) (begins_in_share ranks number v) tells column window t rows)

-- the result rows of the bucket of one value are what is counted of its prefix
pub value_shown : (column : List Value) (window : Period) (prefix : ℕ) (tallies : List Tally) (b : Bucket) → ((t : ℕ) (key : List Value) → bucket_count column t key b ≡ counted_in column prefix t key tallies) → (out : List Fragment)
    → ((t : ℕ) (v : List Value) → copies out v t ≡ cond (holds window t) (shown_copies (value_of column b ∷ []) (count_upto b.endpoints.starts.items b.endpoints.ends.items t ∷ []) v) 0)
    → (t : ℕ) (v : List Value) → copies out v t ≡ cond (holds window t) (shown_copies (take 1 v) (counted_in column prefix t (take 1 v) tallies ∷ []) v) 0
value_shown column window prefix tallies b counts out shown t v = shown t v ∙ split (same_row (value_of column b ∷ []) (take 1 v)) refl
  where
    -- if the row's first value is that of the bucket, all of the bucket counts, otherwise nothing does
    split : (s : Bool) → same_row (value_of column b ∷ []) (take 1 v) ≡ s
        → cond (holds window t) (shown_copies (value_of column b ∷ []) (count_upto b.endpoints.starts.items b.endpoints.ends.items t ∷ []) v) 0
        ≡ cond (holds window t) (shown_copies (take 1 v) (counted_in column prefix t (take 1 v) tallies ∷ []) v) 0
    split true equal =
        let all : count_upto b.endpoints.starts.items b.endpoints.ends.items t ≡ counted_in column prefix t (take 1 v) tallies =
        sym (ap (λ s. cond s (count_upto b.endpoints.starts.items b.endpoints.ends.items t) (pos 0)) equal) ∙ counts t (take 1 v) in
        ap (λ key. cond (holds window t) (shown_copies key (count_upto b.endpoints.starts.items b.endpoints.ends.items t ∷ []) v) 0) (same_from_eq (value_of column b ∷ []) (take 1 v) equal)
        ∙ ap (λ n. cond (holds window t) (shown_copies (take 1 v) (n ∷ []) v) 0) all
    split false differ =
        let differs : value_of column b ∷ [] ≢ take 1 v = λ same. false≢true (sym differ ∙ eq_from_same (value_of column b ∷ []) (take 1 v) same) in
        let no_count : pos 0 ≡ counted_in column prefix t (take 1 v) tallies =
        sym (ap (λ s. cond s (count_upto b.endpoints.starts.items b.endpoints.ends.items t) (pos 0)) differ) ∙ counts t (take 1 v) in
        ap (λ n. cond (holds window t) n 0) (other_shown (value_of column b ∷ []) 1 (count_upto b.endpoints.starts.items b.endpoints.ends.items t ∷ []) v refl differs)
        ∙ ap (λ n. cond (holds window t) (shown_copies (take 1 v) (n ∷ []) v) 0) no_count

-- ---- parts of the rows, one after the other

-- if each part begins at the end of the one before it, and the last one ends after all rows, all rows are in their buckets
pub stretches_tile : (rows : List Fragment) (window : Period) (column : ℕ) (start : ℕ → ℕ) (tallies : List Tally) → start 0 ≡ 0 → length rows ≤ start (length tallies)
    → ((i : ℕ) (d : Tally) → i < length tallies → IsTally rows window column (start i) (start (i + 1)) (get_or tallies i d)) → AreTallies rows window column tallies
stretches_tile rows window column start tallies first last each = record {
  ranked = λ i d lt. (each i d lt).ranked;
  cut = λ i d lt. (each i d lt).cut;
  counts = λ t key.
      ap (added (counts_of t key)) (sym (take_all (length tallies) tallies (omega arith)))
      ∙ upto_place t key (length tallies) (omega arith)
      ∙ ap (keyed_count column window t key) (take_all (start (length tallies)) rows last);
}
  where
    counts_of : ℕ → List Value → Tally → ℤ
    counts_of t key b = counted (column_of rows column) t key b.list.items

    upto_place : (t : ℕ) (key : List Value) (i : ℕ) → i ≤ length tallies → added (counts_of t key) (take i tallies) ≡ keyed_count column window t key (take (start i) rows)
    upto_place t key zero within = ap (λ n. keyed_count column window t key (take n rows)) (sym first)
    upto_place t key (suc i) within =
        let lt : i < length tallies = omega (arith, within) in
        let next : suc i ≡ i + 1 = omega arith in
        let b : Tally = get_or tallies i (some_of tallies i lt) in
        omega (
          arith,
          ints,
          ap (λ n. added (counts_of t key) (take n tallies)) next,
          ap (λ n. keyed_count column window t key (take (start n) rows)) next,
          added-step (counts_of t key) tallies i b lt (get_or_default tallies i (some_of tallies i lt) b lt),
          upto_place t key i (omega (arith, within)),
          (each i (some_of tallies i lt) lt).counts t key,
        )
      where
        some_of : (list : List Tally) (i : ℕ) → i < length list → Tally
        some_of [] i lt = absurd (omega (arith, lt))
        some_of (b ∷ list) i lt = b
