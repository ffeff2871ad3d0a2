-- The first open row of some values, among the keys of open rows.
use Rattle.std.proofs.Common.{◌≡◌, ℕ, zero, suc, drop, [], ◌∷◌, ◌+◌, ◌*◌, ◌/◌, ◌%◌, ◌<◌, ◌≤◌, ◌&&◌, not, Bool, true, false, List, Option, Some, None, length, slice_get, inl, inr, refl, sym, ap, subst, ◌∙◌, arith}
use Rattle.std.specs.Prelude.{Contains, is_some, filter}
use Rattle.std.specs.BTreeMap.{is_at}
use Rattle.std.specs.BTreeMap.Range.{range_contains}
use Rattle.std.specs.BTreeSet.{BTreeSet, IsOrdered}
use Rattle.std.specs.Cmp.{eq_by_cmp_equiv, nat_cmp_total}
use Rattle.std.specs.List.{list_any}
use Rattle.std.specs.Option.{option_map_or}
use Rattle.std.specs.Ordering.{eq_by_cmp, is_le, is_lt, nat_cmp}
use Rattle.std.specs.declared.ops.Bound.TheVariants.{Included}
use Rattle.std.proofs.lemmas.Bool.{cases_lt}
use Rattle.std.proofs.lemmas.List.Kept.{AllPairs-from_increasing, IsStrictlySortedBy-filter}
use Rattle.std.proofs.lemmas.Map.Keys.{IsStrictlyIncreasing-from_sorted, le_from_is_le}
use Rattle.std.proofs.lemmas.Map.Views.{Contains-from_any, any-filter_same, list_any-from_Contains}
use Rattle.std.proofs.lemmas.Option.{get_or_from_slice_get, slice_get-get_or, slice_get_within}
use Rattle.tq_base.specs.declared.value.Value.{Value}
use Rattle.tq_base.specs.KeyRanges.{key_of}
use Rattle.tq_base.specs.ValueOrder.{same_from_eq, values_cmp}
use Rattle.tq_event.specs.declared.event.Event.{Event}
use Rattle.tq_event.specs.Versions.{Life, row_lives}
use Rattle.tq_snapshot.specs.declared.open_rows.OpenRows.{OpenRows}
use Rattle.tq_snapshot.specs.Digests.{digest_of}
use Rattle.tq_store.specs.Keys.{shifted}
use Rattle.tq_snapshot.specs.OpenIndex.{AreOpenRows, is_open_as, is_open_at, is_open_of}
use Rattle.tq_snapshot.specs.OpenRows.{IsNear, has, index_key}
use Rattle.tq_store.proofs.SortKeyLemmas.{is_least, is_less, not_is_less}
use Rattle.tq_store.proofs.LifeLemmas.{and-true}
use Rattle.tq_snapshot.proofs.OpenLemmas.{IsOpenOf, open_of}
use Rattle.tq_snapshot.proofs.OpenRowsLemmas.{number_same, place_row, same_number}

-- ---- ranges of numbers

abbrev pub between : ℕ → ℕ → ℕ → Bool
between low high k = range_contains nat_cmp (Included low) (Included high) k

both-true : (a b : Bool) → a ≡ true → b ≡ true → (a && b) ≡ true
both-true true true one other = refl
both-true true false one other = other
both-true false b one other = one

lies_between : (low high k : ℕ) → low ≤ k → k ≤ high → between low high k ≡ true
lies_between low high k le up = both-true (is_le (nat_cmp low k)) (not (is_lt (nat_cmp high k))) (is_least low k le) (ap not (not_is_less high k up))

from_between : (low high k : ℕ) → between low high k ≡ true → (low ≤ k) × (k ≤ high)
from_between low high k is = (
  le_from_is_le low k sides.0,
  elim (cases_lt high k) [
    | inl less ↦ absurd (let wrong : false ≡ true = sym (ap not (is_less high k less)) ∙ sides.1 in cc)
    | inr le ↦ le
  ],
)
  where
    sides : (is_le (nat_cmp low k) ≡ true) × (not (is_lt (nat_cmp high k)) ≡ true)
    sides = and-true (is_le (nat_cmp low k)) (not (is_lt (nat_cmp high k))) is

-- ---- the rows of the keys

-- the key is that of an open row
pub record IsUnder (es : List Event) (t key : ℕ) : Type 0 where
  pub life : Life
  pub stands : slice_get (row_lives es t) (key % 4294967296) ≡ Some life
  pub none : is_some life.ending ≡ false
  pub same : index_key life.values (key % 4294967296) ≡ key

-- the keys of the range of the values
abbrev pub ranged : BTreeSet ℕ → List Value → List ℕ
ranged set values = filter (between (index_key values 0) (index_key values 0 + 4294967295)) set.keys

-- the row of the key does not have the values
abbrev pub IsUnlike : List Event → ℕ → List Value → ℕ → Type 0
IsUnlike es t values k = (l : Life) → slice_get (row_lives es t) (k % 4294967296) ≡ Some l → eq_by_cmp values_cmp l.values values ≡ false

-- the rows of the first keys of the range do not have the values
abbrev pub AreUnlike : List Event → ℕ → BTreeSet ℕ → List Value → ℕ → Type 0
AreUnlike es t set values i = (j k : ℕ) → j < i → slice_get (ranged set values) j ≡ Some k → IsUnlike es t values k

-- these keys of the range are left, and the rows of the keys before them do not have the values
pub record IsLeft (es : List Event) (t : ℕ) (set : BTreeSet ℕ) (values : List Value) (rest : List ℕ) : Type 0 where
  pub place : ℕ
  pub rest_is : drop place (ranged set values) ≡ rest
  pub unlike : AreUnlike es t set values place

drop_head : {X : Type 0} → (xs : List X) (i : ℕ) (x : X) (more : List X) → drop i xs ≡ x ∷ more → (slice_get xs i ≡ Some x) × (drop (suc i) xs ≡ more)
drop_head [] zero x more is = absurd (cc)
drop_head [] (suc i) x more is = absurd (cc)
drop_head (y ∷ xs) zero x more is = let first : y ≡ x = cc in let rest : xs ≡ more = cc in (ap (λ z. Some z) first, rest)
drop_head (y ∷ xs) (suc i) x more is = drop_head xs i x more is

drop_none : {X : Type 0} → (xs : List X) (i : ℕ) → drop i xs ≡ [] → length xs ≤ i
drop_none [] i is = omega arith
drop_none (y ∷ xs) zero is = absurd (cc)
drop_none (y ∷ xs) (suc i) is = let rest = drop_none xs i is in omega (arith, rest)

not-true : (b : Bool) → not b ≡ true → b ≡ false
not-true true is = absurd (cc)
not-true false is = refl

-- all keys of a range differ only in the number of the row
same_upper : (a k : ℕ) → a * 4294967296 ≤ k → k ≤ a * 4294967296 + 4294967295 → k / 4294967296 ≡ (a * 4294967296 + 0) / 4294967296
same_upper a k from to = omega (arith, from, to)

module _ (es : List Event) (t : ℕ) (rows : OpenRows) (is : AreOpenRows es t rows) (few : length es ≤ 16777216) (values : List Value) (set : BTreeSet ℕ) (near : IsNear rows values set) where
  few_rows : (r : ℕ) (l : Life) → slice_get (row_lives es t) r ≡ Some l → r < 4294967296
  few_rows r l stands = let less = slice_get_within (row_lives es t) r l stands in let le = is.few in omega (arith, less, le, few)

  under_of : (k : ℕ) → has rows k ≡ true → IsUnder es t k
  under_of k so = by (slice_get (row_lives es t) (k % 4294967296)) refl (sym (is.opened k) ∙ so)
    where
      by : (o : Option Life) → slice_get (row_lives es t) (k % 4294967296) ≡ o → option_map_or (is_open_as k) o false ≡ true → IsUnder es t k
      by None stands here = absurd (cc)
      by (Some l) stands here =
          let both = and-true (not (is_some l.ending)) (eq_by_cmp nat_cmp (index_key l.values (k % 4294967296)) k) here in
          record { life = l; stands = stands; none = not-true (is_some l.ending) both.0; same = same_number (index_key l.values (k % 4294967296)) k both.1 }

  -- the keys in the range
  pub in_range : (i k : ℕ) → slice_get (ranged set values) i ≡ Some k → (between (index_key values 0) (index_key values 0 + 4294967295) k ≡ true) × (has rows k ≡ true)
  in_range i k here =
      let there = list_any-from_Contains {eq = eq_by_cmp nat_cmp} (eq_by_cmp_equiv nat_cmp_total) k (ranged set values) (i, slice_get_within (ranged set values) i k here, get_or_from_slice_get (ranged set values) i k k here) in
      let test = between (index_key values 0) (index_key values 0 + 4294967295) in
      let kept = any-filter_same (is_at (nat_cmp k)) test (test k) (λ q at. sym (ap test (same_number k q at))) set.keys in
      let both = and-true (test k) (list_any (is_at (nat_cmp k)) set.keys) (sym kept ∙ there) in
      let sides = from_between (index_key values 0) (index_key values 0 + 4294967295) k both.0 in
      let from = sides.0 in
      let to = sides.1 in
      (both.0, near k (same_upper (shifted (key_of values) * 4294967296 + digest_of values) k (omega (arith, from)) (omega (arith, to))) ∙ both.1)

  pub under : (i k : ℕ) → slice_get (ranged set values) i ≡ Some k → IsUnder es t k
  under i k here = under_of k (in_range i k here).1

  -- the key of an open row with the values is in the range
  key_there : (r : ℕ) → is_open_at (row_lives es t) values r ≡ true → Contains (ranged set values) (index_key values r)
  key_there r so = Contains-from_any {eq = eq_by_cmp nat_cmp} same_number key (ranged set values)
      (kept ∙ sym (near key (same_upper (shifted (key_of values) * 4294967296 + digest_of values) key (omega arith) (omega (arith, small)))) ∙ has_it)
    where
      o : IsOpenOf es t r values
      o = open_of es t values r so

      key : ℕ
      key = index_key values r

      small : r < 4294967296
      small = few_rows r o.life o.stands

      own : eq_by_cmp nat_cmp (index_key o.life.values (key % 4294967296)) key ≡ true
      own =
          ap (λ n. eq_by_cmp nat_cmp (index_key o.life.values n) key) (place_row values r small)
          ∙ ap (λ v. eq_by_cmp nat_cmp (index_key v r) key) (same_from_eq o.life.values values o.like) ∙ number_same key

      has_it : has rows key ≡ true
      has_it =
          is.opened key ∙ ap (λ n. option_map_or (is_open_as key) (slice_get (row_lives es t) n) false) (place_row values r small)
          ∙ ap (λ x. option_map_or (is_open_as key) x false) o.stands
          ∙ ap (λ e. not (is_some e) && eq_by_cmp nat_cmp (index_key o.life.values (key % 4294967296)) key) o.none ∙ own

      lies : between (index_key values 0) (index_key values 0 + 4294967295) key ≡ true
      lies = lies_between (index_key values 0) (index_key values 0 + 4294967295) key (omega arith) (omega (arith, small))

      kept : list_any (is_at (nat_cmp key)) (ranged set values) ≡ list_any (is_at (nat_cmp key)) set.keys
      kept = any-filter_same (is_at (nat_cmp key)) (between (index_key values 0) (index_key values 0 + 4294967295)) true (λ q at. subst (λ n. between (index_key values 0) (index_key values 0 + 4294967295) n ≡ true) (same_number key q at) lies) set.keys

  -- an open row with the values has a key that is not before these
  behind : (i r : ℕ) → AreUnlike es t set values i → is_open_at (row_lives es t) values r ≡ true → (j : ℕ) × (i ≤ j) × (slice_get (ranged set values) j ≡ Some (index_key values r))
  behind i r before so =
      let there = key_there r so in
      let at : slice_get (ranged set values) there.0 ≡ Some (index_key values r) = slice_get-get_or (ranged set values) there.0 (index_key values r) there.1 ∙ ap (λ k. Some k) there.2 in
      elim (cases_lt there.0 i) [
        | inl less ↦
            let o = open_of es t values r so in
            let unlike = before there.0 (index_key values r) less at o.life (ap (slice_get (row_lives es t)) (place_row values r (few_rows r o.life o.stands)) ∙ o.stands) in
            absurd (let wrong : true ≡ false = sym o.like ∙ unlike in cc)
        | inr le ↦ (there.0, le, at)
      ]

  first_member : (i k : ℕ) → slice_get (ranged set values) i ≡ Some k → ((l : Life) → slice_get (row_lives es t) (k % 4294967296) ≡ Some l → eq_by_cmp values_cmp l.values values ≡ true) → is_open_at (row_lives es t) values (k % 4294967296) ≡ true
  first_member i k here like =
      let u = under i k here in
      ap (λ o. option_map_or (is_open_of values) o false) u.stands ∙ ap (λ b. not b && eq_by_cmp values_cmp u.life.values values) u.none ∙ like u.life u.stands

  first_least : (i k : ℕ) → IsOrdered nat_cmp set → slice_get (ranged set values) i ≡ Some k → AreUnlike es t set values i → (r : ℕ) → is_open_at (row_lives es t) values r ≡ true → k % 4294967296 ≤ r
  first_least i k ordered here before r so =
      let late = behind i r before so in
      let sides = from_between (index_key values 0) (index_key values 0 + 4294967295) k (in_range i k here).0 in
      let from = sides.0 in
      let to = sides.1 in
      let o = open_of es t values r so in
      let small = few_rows r o.life o.stands in
      let upper : ℕ = shifted (key_of values) * 4294967296 + digest_of values in
      elim (cases_lt i late.0) [
        | inl less ↦
            let rise = AllPairs-from_increasing (ranged set values) (IsStrictlyIncreasing-from_sorted (ranged set values) (IsStrictlySortedBy-filter nat_cmp (between (index_key values 0) (index_key values 0 + 4294967295)) set.keys ordered)) i late.0 0 less (slice_get_within (ranged set values) late.0 (index_key values r) late.2) in
            let low_is = get_or_from_slice_get (ranged set values) i k 0 here in
            let high_is = get_or_from_slice_get (ranged set values) late.0 (index_key values r) 0 late.2 in
            apart upper k r (omega (arith, rise, low_is, high_is)) (omega (arith, from)) (omega (arith, to))
        | inr le ↦
            let at : i ≡ late.0 = let up = late.1 in omega (arith, le, up) in
            let both : Some k ≡ Some (index_key values r) = sym here ∙ ap (slice_get (ranged set values)) at ∙ late.2 in
            let same : k ≡ index_key values r = cc in
            apart upper k r (omega (arith, same)) (omega (arith, from)) (omega (arith, to))
      ]
    where
      apart : (a k r : ℕ) → k ≤ a * 4294967296 + r → a * 4294967296 ≤ k → k ≤ a * 4294967296 + 4294967295 → k % 4294967296 ≤ r
      apart a k r le from to = omega (arith, le, from, to)

  none_open : AreUnlike es t set values (length (ranged set values)) → (r : ℕ) → is_open_at (row_lives es t) values r ≡ false
  none_open before r = by (is_open_at (row_lives es t) values r) refl
    where
      by : (b : Bool) → is_open_at (row_lives es t) values r ≡ b → is_open_at (row_lives es t) values r ≡ false
      by false so = so
      by true so =
          let late = behind (length (ranged set values)) r before so in
          let within = slice_get_within (ranged set values) late.0 (index_key values r) late.2 in
          let past = late.1 in
          absurd (omega (arith, within, past))

  -- ---- the first of the keys that are left

  pub all_left : (rest : List ℕ) → rest ≡ ranged set values → IsLeft es t set values rest
  all_left rest is = record { place = 0; rest_is = sym is; unlike = λ j k less here. absurd (omega (arith, less)) }

  module _ (k : ℕ) (more : List ℕ) (left : IsLeft es t set values (k ∷ more)) where
    here : slice_get (ranged set values) left.place ≡ Some k
    here = (drop_head (ranged set values) left.place k more left.rest_is).0

    pub left_under : IsUnder es t k
    left_under = under left.place k here

    pub left_member : ((l : Life) → slice_get (row_lives es t) (k % 4294967296) ≡ Some l → true ≡ eq_by_cmp values_cmp l.values values) → is_open_at (row_lives es t) values (k % 4294967296) ≡ true
    left_member like = first_member left.place k here (λ l stands. sym (like l stands))

    pub left_least : IsOrdered nat_cmp set → (r : ℕ) → is_open_at (row_lives es t) values r ≡ true → k % 4294967296 ≤ r
    left_least ordered = first_least left.place k ordered here left.unlike

    pub left_next : ((l : Life) → slice_get (row_lives es t) (k % 4294967296) ≡ Some l → false ≡ eq_by_cmp values_cmp l.values values) → IsLeft es t set values more
    left_next like = record {
      place = suc left.place;
      rest_is = (drop_head (ranged set values) left.place k more left.rest_is).1;
      unlike = λ j q less there. elim (cases_lt j left.place) [
        | inl before ↦ left.unlike j q before there
        | inr le ↦
            let at : j ≡ left.place = omega (arith, less, le) in
            let both : Some q ≡ Some k = sym there ∙ ap (slice_get (ranged set values)) at ∙ here in
            let same : q ≡ k = cc in
            subst (IsUnlike es t values) (sym same) (λ l stands. sym (like l stands))
      ];
    }

  pub none_left : (rest : List ℕ) → rest ≡ [] → IsLeft es t set values rest → (r : ℕ) → is_open_at (row_lives es t) values r ≡ false
  none_left rest none left =
      none_open (λ j k less here. left.unlike j k (let past = drop_none (ranged set values) left.place (left.rest_is ∙ none) in omega (arith, less, past)) here)

-- if there are no keys, no row is open
pub none_there : (es : List Event) (t : ℕ) (rows : OpenRows) → AreOpenRows es t rows → length es ≤ 16777216 → (values : List Value) → ((k : ℕ) → has rows k ≡ false) → (r : ℕ) → is_open_at (row_lives es t) values r ≡ false
none_there es t rows is few values none =
    let empty : BTreeSet ℕ = record { keys = [] } in
    none_open es t rows is few values empty (λ k same. none k) (λ j k less here. absurd (omega (arith, less)))
