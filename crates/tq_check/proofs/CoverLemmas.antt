-- Sorted keys of rows make covers: those of each value lie apart, and contain the instants at which the rows are valid.
use Rattle.std.proofs.Common.{◌≡◌, ◌∙◌, ℕ, ◌<◌, ◌≤◌, Bool, true, false, cond, ◌&&◌, ◌||◌, List, [], ◌∷◌, ap, refl, sym, subst, arith, get_or, map, max, inl, inr}
use Rattle.std.specs.Prelude.{◌⊎◌, All, AllPairs, IsSorted, nat_le, nat_lt}
use Rattle.std.specs.Cmp.{Equal-is, nat_cmp_is, IsTotalOrder}
use Rattle.std.specs.List.{list_any}
use Rattle.std.specs.Ordering.{eq_by_cmp, is_eq, is_lt, nat_cmp, ordering_reverse, ordering_then}
use Rattle.std.specs.declared.cmp.Ordering.{Ordering}
use Rattle.std.specs.declared.cmp.Ordering.TheVariants.{Equal, Greater, Less}
use Rattle.std.proofs.lemmas.Bool.{cases_lt}
use Rattle.std.proofs.lemmas.Bool.Decides.{nat_tests}
use Rattle.std.proofs.lemmas.Cmp.{alike_right, tied_back, tied_itself}
use Rattle.std.proofs.lemmas.List.Elements.{All-cons, All-head, All-nil, All-tail}
use Rattle.std.proofs.lemmas.List.Kept.{AllPairs-cons}
use Rattle.std.proofs.lemmas.List.Sorted.{list_any-IsPermutation, ranks_by, sorted_far}
use Rattle.tq_base.specs.Keys.{columns_on, held, held_on, key_cmp, key_row, key_values, value_key_cmp, Held, IsSortKey, SortInputState}
use Rattle.tq_base.specs.Periods.{holds}
use Rattle.tq_base.specs.RowValues.{value_at}
use Rattle.tq_base.specs.SortKeyLaws.{key_cmp_total, told, value_key_cmp_total}
use Rattle.tq_base.specs.Sweep.{pairs_head, pairs_tail}
use Rattle.tq_base.specs.ValueOrder.{values_cmp}
use Rattle.tq_base.specs.declared.fragment.Fragment.{Fragment}
use Rattle.tq_base.specs.declared.sort_input.Side.TheVariants as side
use Rattle.tq_base.specs.declared.sort_input.SortKey.{SortKey}
use Rattle.tq_base.specs.declared.value.Value.{Value}
use Rattle.tq_check.specs.CoverKeys.{AreParentKeys}
use Rattle.tq_check.specs.Covers.{continues, cover_of, covers_after, covers_of, extended, is_covering, is_valid_row, AreCovers, IsBefore}
use Rattle.tq_check.specs.declared.covers.Cover.{Cover}

-- ---- total orders

pub less_equal : {K : Type 0} {R : K → K → Ordering} (o : IsTotalOrder R) (a b c : K) → R a b ≡ Less → R b c ≡ Equal → R a c ≡ Less
less_equal o a b c less equal = sym (alike_right o b c a equal) ∙ less

pub equal_then : {K : Type 0} {R : K → K → Ordering} (o : IsTotalOrder R) (r : Ordering) (a b c : K) → R a b ≡ Equal → R b c ≡ r → R a c ≡ r
equal_then o r a b c equal next = o.congr a b c equal ∙ next

pub greater_back : {K : Type 0} {R : K → K → Ordering} (o : IsTotalOrder R) (a b : K) → R b a ≡ Less → R a b ≡ Greater
greater_back o a b less = o.antisymm a b ∙ ap ordering_reverse less

pub less_back : {K : Type 0} {R : K → K → Ordering} (o : IsTotalOrder R) (a b : K) → R b a ≡ Greater → R a b ≡ Less
less_back o a b greater = o.antisymm a b ∙ ap ordering_reverse greater

-- ---- tests

pub both_true : (a b : Bool) → (a && b) ≡ true → (a ≡ true) × (b ≡ true)
both_true true b is = (refl, is)
both_true false b is = cc

pub at_most : (m n : ℕ) → nat_le m n ≡ true → m ≤ n
at_most m n is = grind (arith, nat_tests, is)

or_assoc_back : (a b c : Bool) → (a || (b || c)) ≡ ((a || b) || c)
or_assoc_back true b c = refl
or_assoc_back false b c = refl

-- the first test fails if both do not pass and the second one does
past : (x y : ℕ) (b : Bool) → (nat_le x y && b) ≡ false → b ≡ true → y < x
past x y b is same = by (nat_le x y) refl
  where
    by : (t : Bool) → nat_le x y ≡ t → y < x
    by true here = let both : (nat_le x y && b) ≡ true = (λ i. here i && same i) in cc (both, is)
    by false here = grind (arith, nat_tests, here)

-- ---- the order of keys

-- the next key has greater values, or the same and does not start earlier
abbrev pub Follows : SortInputState → SortKey → SortKey → Type 0
Follows s key next = (value_key_cmp s key next ≡ Less) ⊎ ((value_key_cmp s key next ≡ Equal) × (key.start ≤ next.start))

follows_itself : (s : SortInputState) (key : SortKey) → Follows s key key
follows_itself s key = inr (tied_itself (value_key_cmp_total s) key, omega arith)

follows_then : (s : SortInputState) (a b c : SortKey) → Follows s a b → Follows s b c → Follows s a c
follows_then s a b c (inl one) (inl other) = inl ((value_key_cmp_total s).trans a b c one other)
follows_then s a b c (inl one) (inr other) = inl (less_equal (value_key_cmp_total s) a b c one other.0)
follows_then s a b c (inr one) (inl other) = inl (equal_then (value_key_cmp_total s) Less a b c one.0 other)
follows_then s a b c (inr one) (inr other) = inr (equal_then (value_key_cmp_total s) Equal a b c one.0 other.0, omega (arith, one.1, other.1))

-- a cover lies before those of later keys if the next key does not continue it
before_from : (s : SortInputState) (cover : Cover) (key : SortKey) (other : Cover)
    → continues s cover key ≡ false → Follows s cover.key key → Follows s key other.key → IsBefore s cover other
before_from s cover key other apart (inl one) (inl two) = inl ((value_key_cmp_total s).trans cover.key key other.key one two)
before_from s cover key other apart (inl one) (inr two) = inl (less_equal (value_key_cmp_total s) cover.key key other.key one two.0)
before_from s cover key other apart (inr one) (inl two) = inl (equal_then (value_key_cmp_total s) Less cover.key key other.key one.0 two)
before_from s cover key other apart (inr one) (inr two) =
    let later : cover.end < key.start = past key.start cover.end (is_eq (value_key_cmp s cover.key key)) apart (ap is_eq one.0) in
    inr (equal_then (value_key_cmp_total s) Equal cover.key key other.key one.0 two.0, omega (arith, later, two.1))

-- a start is at most another one that is not less
not_below : (a b : ℕ) → is_lt (nat_cmp b a) ≡ false → a ≤ b
not_below a b is = elim (cases_lt b a) [
  | inl below ↦ let less : Less ≡ nat_cmp b a = nat_cmp_is b a Less below in let below_too : is_lt (nat_cmp b a) ≡ true = ap is_lt (sym less) in cc
  | inr order ↦ order
]

follows_from : (s : SortInputState) (a b : SortKey) → is_lt (key_cmp s b a) ≡ false → Follows s a b
follows_from s a b is = by (value_key_cmp s b a) refl
  where
    by : (r : Ordering) → value_key_cmp s b a ≡ r → Follows s a b
    by Less here =
        let below : is_lt (key_cmp s b a) ≡ true = ap (λ o. is_lt (ordering_then o (nat_cmp b.start a.start))) here in
        cc (below, is)
    by Equal here =
        let starts : is_lt (nat_cmp b.start a.start) ≡ false = sym (ap (λ o. is_lt (ordering_then o (nat_cmp b.start a.start))) here) ∙ is in
        inr (tied_back (value_key_cmp_total s) b a here, not_below a.start b.start starts)
    by Greater here = inl (less_back (value_key_cmp_total s) a b here)

all_follow : (s : SortInputState) (keys : List SortKey) → IsSorted (key_cmp s) keys → AllPairs (Follows s) keys
all_follow s keys sorted i j d before less =
    follows_from s (get_or keys i d) (get_or keys j d)
    (sorted_far (λ x y. is_lt (key_cmp s x y)) (ranks_by (key_cmp_total s) (λ (k : SortKey). k)) keys sorted i j d (omega (arith, before)) less)

-- ---- the covers of keys

pub none_after : (s : SortInputState) (cover : Cover) → covers_after s cover [] ≡ cover ∷ []
unfolding covers_after
none_after s cover = refl

pub one_after : (s : SortInputState) (cover : Cover) (key : SortKey) (keys : List SortKey)
    → covers_after s cover (key ∷ keys) ≡ cond (continues s cover key) (covers_after s (extended s cover key) keys) (cover ∷ covers_after s (cover_of s key) keys)
unfolding covers_after
one_after s cover key keys = refl

-- the covers that begin with a key
record Joined (s : SortInputState) (key : SortKey) (covers : List Cover) : Type 0 where
  pub after : All (λ (other : Cover). Follows s key other.key) covers
  pub apart : AllPairs (IsBefore s) covers
  pub each : All (λ (other : Cover). IsSortKey s other.key) covers
  pub some : All (λ (other : Cover). other.key.start < other.end) covers

-- one more cover in front
in_front : (s : SortInputState) (cover : Cover) (covers : List Cover) → All (λ (other : Cover). Follows s cover.key other.key) covers → All (IsBefore s cover) covers
    → IsSortKey s cover.key → cover.key.start < cover.end → AllPairs (IsBefore s) covers → All (λ (other : Cover). IsSortKey s other.key) covers → All (λ (other : Cover). other.key.start < other.end) covers
    → Joined s cover.key (cover ∷ covers)
in_front s cover covers after before is some apart each all_some = record {
  after = All-cons (λ (other : Cover). Follows s cover.key other.key) cover covers (follows_itself s cover.key) after;
  apart = AllPairs-cons (IsBefore s) cover covers before apart;
  each = All-cons (λ (other : Cover). IsSortKey s other.key) cover covers is each;
  some = All-cons (λ (other : Cover). other.key.start < other.end) cover covers some all_some;
}

joined : (s : SortInputState) (cover : Cover) (keys : List SortKey) → IsSortKey s cover.key → cover.key.start < cover.end → All (IsSortKey s) keys
    → All (Follows s cover.key) keys → AllPairs (Follows s) keys → Joined s cover.key (covers_after s cover keys)
joined s cover [] is some each after pairs =
    subst (Joined s cover.key) (sym (none_after s cover))
    (in_front s cover [] (All-nil (λ (other : Cover). Follows s cover.key other.key)) (All-nil (IsBefore s cover)) is some (λ i j d before less. absurd (omega (arith, less)))
    (All-nil (λ (other : Cover). IsSortKey s other.key)) (All-nil (λ (other : Cover). other.key.start < other.end)))
joined s cover (key ∷ keys) is some each after pairs =
    let key_is : IsSortKey s key = All-head (IsSortKey s) key keys each in
    let rest = All-tail (IsSortKey s) key keys each in
    let others = pairs_tail (Follows s) key keys pairs in
    let start = key_is.start in
    let ordered = (key_row s key).period.ordered in
    subst (Joined s cover.key) (sym (one_after s cover key keys))
    (by (continues s cover key) refl
    (joined s (extended s cover key) keys is (omega (arith, some)) rest (All-tail (Follows s cover.key) key keys after) others)
    (joined s (cover_of s key) keys key_is (omega (arith, start, ordered)) rest (pairs_head (Follows s) key keys pairs) others))
  where
    by : (b : Bool) → continues s cover key ≡ b → Joined s cover.key (covers_after s (extended s cover key) keys) → Joined s key (covers_after s (cover_of s key) keys)
        → Joined s cover.key (cond (continues s cover key) (covers_after s (extended s cover key) keys) (cover ∷ covers_after s (cover_of s key) keys))
    by true here one other = subst (λ b. Joined s cover.key (cond b (covers_after s (extended s cover key) keys) (cover ∷ covers_after s (cover_of s key) keys))) (sym here) one
    by false here one other =
        let next : Follows s cover.key key = All-head (Follows s cover.key) key keys after in
        subst (λ b. Joined s cover.key (cond b (covers_after s (extended s cover key) keys) (cover ∷ covers_after s (cover_of s key) keys))) (sym here)
        (in_front s cover (covers_after s (cover_of s key) keys)
        (λ i d less. follows_then s cover.key key (get_or (covers_after s (cover_of s key) keys) i d).key next (other.after i d less))
        (λ i d less. before_from s cover key (get_or (covers_after s (cover_of s key) keys) i d) here next (other.after i d less))
        is some other.apart other.each other.some)

-- ---- the instants of the covers

-- whether the key's row has the values, and is valid at the instant
abbrev pub is_valid_key : SortInputState → List Value → ℕ → SortKey → Bool
is_valid_key s values at key = eq_by_cmp values_cmp values (key_values s key) && holds (key_row s key).period at

-- two periods of which the second one starts in the first, or at its end, have the instants of one
joins : (b : Bool) (s t x y at : ℕ) → s ≤ t → t ≤ x → (b && (nat_le s at && nat_lt at (max x y))) ≡ ((b && (nat_le s at && nat_lt at x)) || (b && (nat_le t at && nat_lt at y)))
joins false s t x y at first second = refl
joins true s t x y at first second = grind (arith, nat_tests, first, second)

module _ (s : SortInputState) (values : List Value) (at : ℕ) where
  one_row : (key : SortKey) → IsSortKey s key → is_covering s values at (cover_of s key) ≡ is_valid_key s values at key
  one_row key is = ap (λ n. eq_by_cmp values_cmp values (key_values s key) && (nat_le n at && nat_lt at (key_row s key).period.end)) is.start

  wider : (cover : Cover) (key : SortKey) → IsSortKey s cover.key → IsSortKey s key → Follows s cover.key key → continues s cover key ≡ true
      → is_covering s values at (extended s cover key) ≡ (is_covering s values at cover || is_valid_key s values at key)
  wider cover key cover_is is (inl less) here =
      let equal = (Equal-is (value_key_cmp s cover.key key)).0 (both_true (nat_le key.start cover.end) (is_eq (value_key_cmp s cover.key key)) here).1 in
      cc (less, equal)
  wider cover key cover_is is (inr order) here =
      let most : key.start ≤ cover.end = at_most key.start cover.end (both_true (nat_le key.start cover.end) (is_eq (value_key_cmp s cover.key key)) here).0 in
      let start = is.start in
      joins (eq_by_cmp values_cmp values (key_values s cover.key)) cover.key.start (key_row s key).period.start cover.end (key_row s key).period.end at (omega (arith, order.1, start)) (omega (arith, most, start))
      ∙ ap (λ v. is_covering s values at cover || (eq_by_cmp values_cmp values v && holds (key_row s key).period at)) (told s cover.key key cover_is is order.0)

  covered : (cover : Cover) (keys : List SortKey) → IsSortKey s cover.key → All (IsSortKey s) keys → All (Follows s cover.key) keys → AllPairs (Follows s) keys
      → list_any (is_covering s values at) (covers_after s cover keys) ≡ (is_covering s values at cover || list_any (is_valid_key s values at) keys)
  covered cover [] is each after pairs = ap (list_any (is_covering s values at)) (none_after s cover)
  covered cover (key ∷ keys) is each after pairs =
      let key_is : IsSortKey s key = All-head (IsSortKey s) key keys each in
      let rest = All-tail (IsSortKey s) key keys each in
      let others = pairs_tail (Follows s) key keys pairs in
      ap (list_any (is_covering s values at)) (one_after s cover key keys)
      ∙ by (continues s cover key) refl key_is
      (covered (extended s cover key) keys is rest (All-tail (Follows s cover.key) key keys after) others)
      (covered (cover_of s key) keys key_is rest (pairs_head (Follows s) key keys pairs) others)
    where
      by : (b : Bool) → continues s cover key ≡ b → IsSortKey s key
          → list_any (is_covering s values at) (covers_after s (extended s cover key) keys) ≡ (is_covering s values at (extended s cover key) || list_any (is_valid_key s values at) keys)
          → list_any (is_covering s values at) (covers_after s (cover_of s key) keys) ≡ (is_covering s values at (cover_of s key) || list_any (is_valid_key s values at) keys)
          → list_any (is_covering s values at) (cond (continues s cover key) (covers_after s (extended s cover key) keys) (cover ∷ covers_after s (cover_of s key) keys))
          ≡ (is_covering s values at cover || (is_valid_key s values at key || list_any (is_valid_key s values at) keys))
      by true here key_is one other =
          ap (λ b. list_any (is_covering s values at) (cond b (covers_after s (extended s cover key) keys) (cover ∷ covers_after s (cover_of s key) keys))) here
          ∙ one
          ∙ ap (λ b. b || list_any (is_valid_key s values at) keys) (wider cover key is key_is (All-head (Follows s cover.key) key keys after) here)
          ∙ sym (or_assoc_back (is_covering s values at cover) (is_valid_key s values at key) (list_any (is_valid_key s values at) keys))
      by false here key_is one other =
          ap (λ b. list_any (is_covering s values at) (cond b (covers_after s (extended s cover key) keys) (cover ∷ covers_after s (cover_of s key) keys))) here
          ∙ ap (λ b. is_covering s values at cover || b) (other ∙ ap (λ b. b || list_any (is_valid_key s values at) keys) (one_row key key_is))

  abbrev is_valid_held : Held → Bool
  is_valid_held row = eq_by_cmp values_cmp values (map (value_at row.row.values) (columns_on s row.side)) && holds row.row.period at

  any_held : (keys : List SortKey) → list_any (is_valid_key s values at) keys ≡ list_any is_valid_held (map (held s) keys)
  any_held [] = refl
  any_held (key ∷ keys) = ap (λ b. is_valid_key s values at key || b) (any_held keys)

  any_right : (rows : List Fragment) → list_any is_valid_held (held_on side.Right rows) ≡ list_any (is_valid_row s values at) rows
  any_right [] = refl
  any_right (row ∷ rows) = ap (λ b. is_valid_row s values at row || b) (any_right rows)

  any_key : (keys : List SortKey) → AreParentKeys s keys → list_any (is_valid_key s values at) keys ≡ list_any (is_valid_row s values at) s.right
  any_key keys are =
      any_held keys
      ∙ sym (list_any-IsPermutation is_valid_held (held_on side.Right s.right) (map (held s) keys) are.permuted)
      ∙ any_right s.right

pub are_covers : (s : SortInputState) (keys : List SortKey) → AreParentKeys s keys → AreCovers s (covers_of s keys)
are_covers s [] are = record {
  each = All-nil (λ (cover : Cover). IsSortKey s cover.key);
  some = All-nil (λ (cover : Cover). cover.key.start < cover.end);
  apart = λ i j d before less. absurd (omega (arith, less));
  same = λ values at. any_key s values at [] are;
}
are_covers s (key ∷ keys) are =
    let pairs : AllPairs (Follows s) (key ∷ keys) = all_follow s (key ∷ keys) are.sorted in
    let is : IsSortKey s key = All-head (IsSortKey s) key keys are.each in
    let rest = All-tail (IsSortKey s) key keys are.each in
    let after = pairs_head (Follows s) key keys pairs in
    let others = pairs_tail (Follows s) key keys pairs in
    let start = is.start in
    let ordered = (key_row s key).period.ordered in
    let all = joined s (cover_of s key) keys is (omega (arith, start, ordered)) rest after others in
    record {
      each = all.each;
      some = all.some;
      apart = all.apart;
      same = λ values at.
          covered s values at (cover_of s key) keys is rest after others
          ∙ ap (λ b. b || list_any (is_valid_key s values at) keys) (one_row s values at key is)
          ∙ any_key s values at (key ∷ keys) are;
    }
