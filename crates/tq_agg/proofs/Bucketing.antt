-- Inserting a bucket and adding a row to a bucket preserve what is known of buckets.
use Rattle.std.proofs.Common.{◌≡◌, ◌≢◌, ℕ, zero, suc, ◌+◌, ◌<◌, ◌≤◌, ℤ, pos, ◌+ℤ◌, inl, inr, Bool, true, false, ◌&&◌, cond, nat_lt, List, [], ◌∷◌, ◌++◌, length, take, drop, map, set, get_or, refl, sym, subst, ap, ◌∙◌, arith}
use Rattle.std.specs.Prelude.{All}
use Rattle.std.specs.List.{count_by, insert, AllPairs}
use Rattle.std.proofs.lemmas.Bool.{cases_lt}
use Rattle.std.proofs.lemmas.Bool.Decides.{nat_tests}
use Rattle.std.proofs.lemmas.Int.{ints}
use Rattle.std.proofs.lemmas.List.{drop-map, get_or-drop, get_or-map, get_or_default, length-drop, length-map, map-append, map-set, set-get_or, take-map}
use Rattle.std.proofs.lemmas.List.Elements.{All-nil, All-cons, All-head, All-set, All-tail, All-weaker}
use Rattle.std.proofs.lemmas.List.Kept.{AllPairs-cons}
use Rattle.std.proofs.lemmas.List.Sorted.{All-permutation, IsPermutation-insert}
use Rattle.std.proofs.lemmas.List.Sums.{sum_by-cons}
use Rattle.tq_base.specs.RowValues.{value_at}
use Rattle.tq_base.specs.declared.value.Value.{Value}
use Rattle.tq_base.specs.declared.period.Period.{Period}
use Rattle.tq_base.specs.declared.fragment.Fragment.{Fragment}
use Rattle.tq_base.specs.Keys.{no_row, is_exact}
use Rattle.tq_base.specs.SortKeyLaws.{is_exact_value}
use Rattle.tq_base.specs.Periods.{holds}
use Rattle.tq_base.specs.Relations.{column_of, values_at_number}
use Rattle.tq_base.specs.NormalizedKeys.{prefixes_are_exact, normalized_key, HasBytes}
use Rattle.tq_base.specs.Sweep.{pairs_head, pairs_tail, upto, upto-push}
use Rattle.tq_agg.specs.declared.buckets.Bucket.{Bucket}
use Rattle.tq_agg.specs.Buckets.{bucket_count, counted, keyed_count, value_of, AreCut, AreRanked, IsInside, HasExactKey}
use Rattle.tq_agg.specs.Endpoints.{count_upto, AreInside}
use Rattle.tq_agg.specs.Grouping.{same_row}
use Rattle.tq_agg.specs.Totals.{added}
use Rattle.tq_agg.proofs.Adding.{added-IsPermutation, added-step}
use Rattle.tq_agg.proofs.Changing.{one_while_it_lasts}

-- ---- numbers that rise

abbrev pub Rising : List ℕ → Type 0
Rising xs = AllPairs (λ r q. r < q) xs

-- how many are below the one
abbrev pub below : ℕ → List ℕ → ℕ
below prefix ranks = count_by (λ r. nat_lt r prefix) ranks

below-cons : (prefix x : ℕ) (xs : List ℕ) → below prefix (x ∷ xs) ≡ cond (nat_lt x prefix) 1 0 + below prefix xs
below-cons prefix x xs = sum_by-cons (λ r. cond (nat_lt r prefix) 1 0) x xs

none_below : (prefix : ℕ) (xs : List ℕ) → All (λ r. prefix ≤ r) xs → below prefix xs ≡ 0
none_below prefix [] all = refl
none_below prefix (x ∷ xs) all =
    let first : prefix ≤ x = All-head (λ r. prefix ≤ r) x xs all in
    let rest = none_below prefix xs (All-tail (λ r. prefix ≤ r) x xs all) in
    let sum = below-cons prefix x xs in
    grind (arith, nat_tests)

-- those below are at the front
pub front_below : (prefix : ℕ) (xs : List ℕ) → Rising xs → All (λ r. r < prefix) (take (below prefix xs) xs) × All (λ r. prefix ≤ r) (drop (below prefix xs) xs)
front_below prefix [] rise = (All-nil (λ r. r < prefix), All-nil (λ r. prefix ≤ r))
front_below prefix (x ∷ xs) rise = elim (cases_lt x prefix) [
  | inl less ↦
      let rest = front_below prefix xs (pairs_tail (λ r q. r < q) x xs rise) in
      let many : below prefix (x ∷ xs) ≡ suc (below prefix xs) = one_more less in (
        subst (λ n. All (λ r. r < prefix) (take n (x ∷ xs))) (sym many) (All-cons (λ r. r < prefix) x (take (below prefix xs) xs) less rest.0),
        subst (λ n. All (λ r. prefix ≤ r) (drop n (x ∷ xs))) (sym many) rest.1,
      )
  | inr least ↦
      let all : All (λ r. prefix ≤ r) (x ∷ xs) = All-cons (λ r. prefix ≤ r) x xs least (All-weaker (λ r. x < r) (λ r. prefix ≤ r) (λ r lt. omega (arith, lt, least)) xs (pairs_head (λ r q. r < q) x xs rise)) in
      let none = none_below prefix (x ∷ xs) all in (
        subst (λ n. All (λ r. r < prefix) (take n (x ∷ xs))) (sym none) (All-nil (λ r. r < prefix)),
        subst (λ n. All (λ r. prefix ≤ r) (drop n (x ∷ xs))) (sym none) all,
      )
]
  where
    one_more : x < prefix → below prefix (x ∷ xs) ≡ suc (below prefix xs)
    one_more less = let sum = below-cons prefix x xs in grind (arith, nat_tests)

-- those after are above it, unless the first of them is the same
pub all_above : (prefix place : ℕ) (xs : List ℕ) → Rising xs → All (λ r. prefix ≤ r) (drop place xs) → (place < length xs → get_or xs place 0 ≢ prefix) → All (λ r. prefix < r) (drop place xs)
all_above prefix place xs rise all differs k d lt =
    let inside : place + k < length xs = omega (arith, lt, length-drop place xs) in
    let here : get_or (drop place xs) 0 d ≡ get_or xs place d = get_or-drop place xs 0 d ∙ ap (λ i. get_or xs i d) (let same : place + 0 ≡ place = omega arith in same) in
    let there : get_or (drop place xs) k d ≡ get_or xs (place + k) d = get_or-drop place xs k d in
    let low = all 0 d (omega (arith, lt)) in
    elim (cases_lt 0 k) [
      | inl later ↦ let less = rise place (place + k) d (omega (arith, later)) inside in omega (arith, low, here, there, less)
      | inr first ↦
          let zero' : k ≡ 0 = omega (arith, first) in
          elim (cases_lt prefix (get_or xs place d)) [
            | inl less ↦ omega (arith, less, there, ap (λ i. get_or xs i d) (let same : place + k ≡ place = omega (arith, zero') in same))
            | inr least ↦
                absurd (differs (omega (arith, inside)) (default_same place xs (omega (arith, inside)) d ∙ (let same : get_or xs place d ≡ prefix = omega (arith, least, low, here) in same)))
          ]
    ]
  where
    default_same : (i : ℕ) (xs : List ℕ) → i < length xs → (d : ℕ) → get_or xs i 0 ≡ get_or xs i d
    default_same i xs lt d = get_or_default xs i 0 d lt

pub All-insert : {X : Type 0} (P : X → Type 0) (xs : List X) (place : ℕ) (x : X) → All P xs → P x → All P (insert xs place x)
All-insert P xs place x all is = All-permutation P (x ∷ xs) (insert xs place x) (IsPermutation-insert xs place x) (All-cons P x xs is all)

-- one more number at its place
pub rising_insert : (place : ℕ) (xs : List ℕ) (x : ℕ) → Rising xs → All (λ r. r < x) (take place xs) → All (λ r. x < r) (drop place xs) → Rising (insert xs place x)
rising_insert zero xs x rise before after = AllPairs-cons (λ r q. r < q) x xs after rise
rising_insert (suc place) [] x rise before after = AllPairs-cons (λ r q. r < q) x [] after rise
rising_insert (suc place) (y ∷ xs) x rise before after =
    AllPairs-cons (λ r q. r < q) y (insert xs place x)
    (All-insert (λ q. y < q) xs place x (pairs_head (λ r q. r < q) y xs rise) (All-head (λ r. r < x) y (take place xs) before))
    (rising_insert place xs x (pairs_tail (λ r q. r < q) y xs rise) (All-tail (λ r. r < x) y (take place xs) before) after)

pub map-insert : {X Y : Type 0} (f : X → Y) (xs : List X) (place : ℕ) (x : X) → map f (insert xs place x) ≡ insert (map f xs) place (f x)
map-insert f xs place x =
    map-append f (take place xs) (x ∷ drop place xs)
    ∙ ap (λ l. l ++ f x ∷ map f (drop place xs)) (sym (take-map f place xs))
    ∙ ap (λ l. take place (map f xs) ++ f x ∷ l) (sym (drop-map f place xs))

-- ---- sums

pub added-insert : {X : Type 0} (w : X → ℤ) (xs : List X) (place : ℕ) (x : X) → added w (insert xs place x) ≡ added w xs +ℤ w x
added-insert w xs place x = omega (arith, ints, added-IsPermutation w (x ∷ xs) (insert xs place x) (IsPermutation-insert xs place x))

-- one element in another's place
pub added-set : {X : Type 0} (w : X → ℤ) (xs : List X) (place : ℕ) (x : X) → place < length xs → (d : X) → added w (set xs place x) +ℤ w (get_or xs place d) ≡ added w xs +ℤ w x
added-set w [] place x lt d = absurd (omega (arith, lt))
added-set w (y ∷ xs) zero x lt d = omega (arith, ints)
added-set w (y ∷ xs) (suc place) x lt d = omega (arith, ints, added-set w xs place x (omega (arith, lt)) d)

-- ---- buckets

-- a value that its prefix determines is the only one with this prefix
pub exact_alone : (v w : Value) → HasExactKey v → HasBytes w → normalized_key v ≡ normalized_key w → v ≡ w
exact_alone v w exact bytes same =
    prefixes_are_exact v w exact.0 bytes (sym (is_exact_value v exact.0) ∙ exact.1) (sym (is_exact_value w bytes) ∙ ap is_exact (sym same) ∙ exact.1) same

module _ (column : List Value) (ranks : List ℕ) (buckets : List Bucket) (are : AreRanked column ranks buckets) (place : ℕ) where
  pub as_many : length ranks ≡ length buckets
  as_many = ap length are.0 ∙ length-map buckets (λ b. normalized_key (value_of column b))

  -- the value of a bucket is the one with its prefix
  pub value_there : place < length ranks → (prefix : ℕ) (w : Value) → prefix ≡ get_or ranks place prefix → prefix ≡ normalized_key w → HasBytes w → (d : Bucket) → value_of column (get_or buckets place d) ≡ w
  value_there lt prefix w is of bytes d =
      let inside : place < length buckets = omega (arith, lt, as_many) in
      exact_alone (value_of column (get_or buckets place d)) w (are.2 place d inside) bytes
      (sym (get_or-map (λ b. normalized_key (value_of column b)) buckets place d prefix inside) ∙ ap (λ l. get_or l place prefix) (sym are.0) ∙ sym is ∙ of)

  -- one more bucket, of a value that has none
  pub one_more : (prefix : ℕ) (b : Bucket) → place ≡ below prefix ranks → prefix ≡ normalized_key (value_of column b) → HasExactKey (value_of column b)
      → (place < length ranks → get_or ranks place 0 ≢ prefix) → AreRanked column (insert ranks place prefix) (insert buckets place b)
  one_more prefix b there of exact differs =
      let fronts = front_below prefix ranks are.1 in
      let before : All (λ r. r < prefix) (take place ranks) = subst (λ n. All (λ r. r < prefix) (take n ranks)) (sym there) fronts.0 in
      let after : All (λ r. prefix ≤ r) (drop place ranks) = subst (λ n. All (λ r. prefix ≤ r) (drop n ranks)) (sym there) fronts.1 in (
        ap (λ l. insert l place prefix) are.0 ∙ ap (insert (map (λ b. normalized_key (value_of column b)) buckets) place) of ∙ sym (map-insert (λ b. normalized_key (value_of column b)) buckets place b),
        rising_insert place ranks prefix are.1 before (all_above prefix place ranks are.1 after differs),
        All-insert (λ b. HasExactKey (value_of column b)) buckets place b are.2 exact,
      )

  -- other bounds in a bucket
  pub other_endpoints : place < length buckets → (b new : Bucket) → b ≡ get_or buckets place b → new.row ≡ b.row → AreRanked column ranks (set buckets place new)
  other_endpoints lt b new is same =
      let alike : value_of column new ≡ value_of column (get_or buckets place b) = ap (value_at column) same ∙ ap (value_of column) is in (
        are.0 ∙ sym (set-get_or (map (λ b. normalized_key (value_of column b)) buckets) place 0)
            ∙ ap (set (map (λ b. normalized_key (value_of column b)) buckets) place) (get_or-map (λ b. normalized_key (value_of column b)) buckets place b 0 lt ∙ ap normalized_key (sym alike))
            ∙ sym (map-set (λ b. normalized_key (value_of column b)) buckets place new),
        are.1,
        All-set (λ b. HasExactKey (value_of column b)) buckets place new (subst HasExactKey (sym alike) (are.2 place b lt)) are.2,
      )

-- an empty bucket has no bounds outside the window
pub empty_is_cut : (window : Period) (buckets : List Bucket) (place : ℕ) (b : Bucket) → b.endpoints.starts.items ≡ [] → b.endpoints.ends.items ≡ [] → AreCut window buckets → AreCut window (insert buckets place b)
empty_is_cut window buckets place b no_starts no_ends cut =
    All-insert (IsInside window) buckets place b cut
    (subst (AreInside window) (sym no_starts) (All-nil (λ x. (window.start ≤ x) × (x ≤ window.end))), subst (AreInside window) (sym no_ends) (All-nil (λ x. (window.start ≤ x) × (x ≤ window.end))))

-- and it counts nothing
pub empty_adds : (column : List Value) (t : ℕ) (key : List Value) (buckets : List Bucket) (place : ℕ) (b : Bucket) → b.endpoints.starts.items ≡ [] → b.endpoints.ends.items ≡ []
    → counted column t key (insert buckets place b) ≡ counted column t key buckets
empty_adds column t key buckets place b no_starts no_ends =
    omega (arith, ints, added-insert (bucket_count column t key) buckets place b, none (same_row (value_of column b ∷ []) key))
  where
    none : (s : Bool) → cond s (count_upto b.endpoints.starts.items b.endpoints.ends.items t) (pos 0) ≡ pos 0
    none true = ap (λ l. count_upto l b.endpoints.ends.items t) no_starts ∙ ap (λ l. count_upto [] l t) no_ends ∙ omega (arith, ints)
    none false = refl

-- a row that goes into the bucket of its value counts while it lasts
pub row_adds : (column : List Value) (t : ℕ) (key : List Value) (buckets : List Bucket) (place : ℕ) (b new : Bucket) (w : Value) (period : Period) → place < length buckets → b ≡ get_or buckets place b → new.row ≡ b.row
    → value_of column b ≡ w → new.endpoints.starts.items ≡ b.endpoints.starts.items ++ period.start ∷ [] → new.endpoints.ends.items ≡ b.endpoints.ends.items ++ period.end ∷ []
    → counted column t key (set buckets place new) ≡ counted column t key buckets +ℤ cond (holds period t) (cond (same_row (w ∷ []) key) (pos 1) (pos 0)) (pos 0)
row_adds column t key buckets place b new w period lt is same of starts ends =
    omega (
      arith,
      ints,
      added-set (bucket_count column t key) buckets place new lt b,
      ap (bucket_count column t key) is,
      ap (λ v. cond (same_row (v ∷ []) key) (count_upto new.endpoints.starts.items new.endpoints.ends.items t) (pos 0)) (ap (value_at column) same ∙ of),
      ap (λ v. cond (same_row (v ∷ []) key) (count_upto b.endpoints.starts.items b.endpoints.ends.items t) (pos 0)) of,
      counts (same_row (w ∷ []) key),
    )
  where
    more : count_upto new.endpoints.starts.items new.endpoints.ends.items t ≡ count_upto b.endpoints.starts.items b.endpoints.ends.items t +ℤ cond (holds period t) (pos 1) (pos 0)
    more =
        omega (
          arith,
          ints,
          ap (λ l. upto l t) starts,
          ap (λ l. upto l t) ends,
          upto-push b.endpoints.starts.items period.start t,
          upto-push b.endpoints.ends.items period.end t,
          one_while_it_lasts period t,
        )

    nothing : (h : Bool) → cond h (pos 0) (pos 0) ≡ pos 0
    nothing true = refl
    nothing false = refl

    counts : (s : Bool) → cond s (count_upto new.endpoints.starts.items new.endpoints.ends.items t) (pos 0)
        ≡ cond s (count_upto b.endpoints.starts.items b.endpoints.ends.items t) (pos 0) +ℤ cond (holds period t) (cond s (pos 1) (pos 0)) (pos 0)
    counts true = more
    counts false = omega (arith, ints, nothing (holds period t))

-- ---- rows

-- the value of the column in the row of the number
pub number_at : (rows : List Fragment) (column number : ℕ) → value_at (column_of rows column) number ≡ value_at (values_at_number rows number) column
number_at [] column number = refl
number_at (row ∷ rows) column zero = refl
number_at (row ∷ rows) column (suc number) = number_at rows column number

-- one more row
pub keyed_step : (column : ℕ) (window : Period) (t : ℕ) (key : List Value) (rows : List Fragment) (i : ℕ) (period : Period) → i < length rows → ((d : Fragment) → period ≡ (get_or rows i d).period)
    → keyed_count column window t key (take (i + 1) rows)
    ≡ keyed_count column window t key (take i rows) +ℤ cond (holds period t && holds window t) (cond (same_row (value_at (column_of rows column) i ∷ []) key) (pos 1) (pos 0)) (pos 0)
keyed_step column window t key rows i period lt are =
    let row = get_or rows i no_row in
    let w : Fragment → ℤ = λ r. cond (holds r.period t && holds window t) (cond (same_row (value_at r.values column ∷ []) key) (pos 1) (pos 0)) (pos 0) in
    added-step w rows i row lt (get_or_default rows i no_row row lt)
    ∙ ap (λ (p : Period). added w (take i rows) +ℤ cond (holds p t && holds window t) (cond (same_row (value_at row.values column ∷ []) key) (pos 1) (pos 0)) (pos 0)) (sym (are no_row))
    ∙ ap (λ v. added w (take i rows) +ℤ cond (holds period t && holds window t) (cond (same_row (v ∷ []) key) (pos 1) (pos 0)) (pos 0)) (sym (number_at rows column i))
