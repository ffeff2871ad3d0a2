-- The endpoints of entries, in any order and in the order of time.
use Rattle.std.proofs.Common.{◌≡◌, ℕ, suc, ◌+◌, ◌*◌, ◌<◌, ◌≤◌, Bool, true, false, cond, ◌||◌, ◌==◌, List, [], ◌∷◌, ◌++◌, Some, length, get_or, take, drop, slice_get, refl, sym, ap, ◌∙◌, arith, inl, inr, count_by, if◌then◌else◌, length-append}
use Rattle.std.specs.Prelude.{All, IsSorted, IsPermutation}
use Rattle.std.specs.List.{list_any}
use Rattle.std.specs.Ordering.{is_lt, nat_cmp, bool_cmp, ordering_then}
use Rattle.std.specs.declared.cmp.Ordering.TheVariants.{Less}
use Rattle.std.specs.Cmp.{IsTotalOrder, nat_cmp_is, nat_cmp_total, bool_cmp_total, on_total, then_total}
use Rattle.std.proofs.lemmas.Bool.{and_parts, or_parts, cases_lt, eqb-true}
use Rattle.std.proofs.lemmas.Bool.Decides.{nat_tests}
use Rattle.std.proofs.lemmas.Option.{get_or_from_slice_get, slice_get_within}
use Rattle.std.proofs.lemmas.List.{drop_more, get_or_default, take-append-drop, get_or-take, length-take-le}
use Rattle.std.proofs.lemmas.List.Elements.{All-nil, All-cons, All-append, All-weaker}
use Rattle.std.proofs.lemmas.List.Folds.{list_any_at, Any-from_list_any}
use Rattle.std.proofs.lemmas.List.Sums.{sum_by-cons, sum_by-append, position_or_len_is}
use Rattle.std.proofs.lemmas.List.Sorted.{sum_by-IsPermutation, All-permutation, sorted_far, ranks_by}
use Rattle.tq_base.specs.declared.period.TheConstants.{FOREVER}
use Rattle.tq_event.specs.Entries.{Entry}
use Rattle.tq_event.specs.declared.endpoint.Endpoint.{Endpoint}
use Rattle.tq_event.specs.Loading.{endpoint_cmp, endpoints_from, endpoints_of_entry, starts_entry, starts_in, row_number, table_at}

pub mark_total : IsTotalOrder endpoint_cmp
mark_total =
    then_total
    (then_total (on_total (λ (m : Endpoint). m.at) nat_cmp_total) (on_total (λ (m : Endpoint). m.starts) bool_cmp_total))
    (on_total (λ (m : Endpoint). m.entry) nat_cmp_total)

-- the endpoint is the start or the end of one of the entries, which are numbered from n on
pub record IsMarkFrom (n : ℕ) (entries : List Entry) (m : Endpoint) : Type 0 where
  pub place : ℕ
  pub numbered : m.entry ≡ n + place
  pub entry : Entry
  pub stands : slice_get entries place ≡ Some entry
  pub at_start : m.starts ≡ true → m.at ≡ entry.from
  pub at_end : m.starts ≡ false → m.at ≡ entry.to

later : (n : ℕ) (e : Entry) (entries : List Entry) (m : Endpoint) → IsMarkFrom (n + 1) entries m → IsMarkFrom n (e ∷ entries) m
later n e entries m is = record {
  place = suc is.place;
  numbered = is.numbered ∙ omega arith;
  entry = is.entry;
  stands = is.stands;
  at_start = is.at_start;
  at_end = is.at_end;
}

pub marks_are : (n : ℕ) (entries : List Entry) → All (IsMarkFrom n entries) (endpoints_from n entries)
marks_are n [] = All-nil (IsMarkFrom n [])
marks_are n (e ∷ entries) =
    All-append (IsMarkFrom n (e ∷ entries)) (endpoints_of_entry n e) (endpoints_from (n + 1) entries)
    (All-cons (IsMarkFrom n (e ∷ entries)) (record { at = e.from; starts = true; entry = n }) _ start (ends (e.to == FOREVER)))
    (All-weaker (IsMarkFrom (n + 1) entries) (IsMarkFrom n (e ∷ entries)) (λ m is. later n e entries m is) (endpoints_from (n + 1) entries) (marks_are (n + 1) entries))
  where
    start : IsMarkFrom n (e ∷ entries) (record { at = e.from; starts = true; entry = n })
    start = record { place = 0; numbered = omega arith; entry = e; stands = refl; at_start = λ _. refl; at_end = λ f. cc }

    ends : (b : Bool) → All (IsMarkFrom n (e ∷ entries)) (if b then [] else record { at = e.to; starts = false; entry = n } ∷ [])
    ends true = All-nil (IsMarkFrom n (e ∷ entries))
    ends false =
        All-cons (IsMarkFrom n (e ∷ entries)) (record { at = e.to; starts = false; entry = n }) []
        (record { place = 0; numbered = omega arith; entry = e; stands = refl; at_start = λ t. cc; at_end = λ _. refl })
        (All-nil (IsMarkFrom n (e ∷ entries)))

-- ---- each entry starts once

abbrev tally : Bool → ℕ
tally b = cond b 1 0

abbrev counted : ℕ → Endpoint → ℕ
counted j m = tally (starts_entry j m)

starts_own : (n j : ℕ) (e : Entry) (b : Bool) → count_by (starts_entry j) (record { at = e.from; starts = true; entry = n } ∷ (if b then [] else record { at = e.to; starts = false; entry = n } ∷ [])) ≡ tally (n == j)
starts_own n j e true = omega (arith, sum_by-cons (counted j) (record { at = e.from; starts = true; entry = n }) [])
starts_own n j e false =
    omega (arith, sum_by-cons (counted j) (record { at = e.from; starts = true; entry = n }) (record { at = e.to; starts = false; entry = n } ∷ []), sum_by-cons (counted j) (record { at = e.to; starts = false; entry = n }) [])

no_start : (n j : ℕ) (entries : List Entry) → j < n → count_by (starts_entry j) (endpoints_from n entries) ≡ 0
no_start n j [] below = refl
no_start n j (e ∷ entries) below =
    let other : tally (n == j) ≡ 0 = grind (arith, nat_tests) in
    omega (arith, sum_by-append (counted j) (endpoints_of_entry n e) (endpoints_from (n + 1) entries), starts_own n j e (e.to == FOREVER), other, no_start (n + 1) j entries (omega arith))

pub one_start : (n j : ℕ) (entries : List Entry) → n ≤ j → j < n + length entries → count_by (starts_entry j) (endpoints_from n entries) ≡ 1
one_start n j [] low high = absurd (omega arith)
one_start n j (e ∷ entries) low high = elim (cases_lt n j) [
  | inl beyond ↦
      let other : tally (n == j) ≡ 0 = grind (arith, nat_tests) in
      omega (arith, sum_by-append (counted j) (endpoints_of_entry n e) (endpoints_from (n + 1) entries), starts_own n j e (e.to == FOREVER), other, one_start (n + 1) j entries (omega arith) (omega arith))
  | inr here ↦
      let own : tally (n == j) ≡ 1 = grind (arith, nat_tests) in
      omega (arith, sum_by-append (counted j) (endpoints_of_entry n e) (endpoints_from (n + 1) entries), starts_own n j e (e.to == FOREVER), own, no_start (n + 1) j entries (omega arith))
]

-- ---- the place of an entry's start

none_counted : (j : ℕ) (marks : List Endpoint) → count_by (starts_entry j) marks ≡ 0 → list_any (starts_entry j) marks ≡ false
none_counted j [] none = refl
none_counted j (m ∷ marks) none = split (starts_entry j m) refl (λ few. none_counted j marks few)
  where
    sum : count_by (starts_entry j) (m ∷ marks) ≡ tally (starts_entry j m) + count_by (starts_entry j) marks
    sum = sum_by-cons (counted j) m marks

    split : (b : Bool) → starts_entry j m ≡ b → (count_by (starts_entry j) marks ≡ 0 → list_any (starts_entry j) marks ≡ false) → (b || list_any (starts_entry j) marks) ≡ false
    split true e rest = let one : tally (starts_entry j m) ≡ 1 = rw e refl in absurd (omega (arith, none, sum, one))
    split false e rest = rest (omega (arith, none, sum))

some_counted : (j : ℕ) (marks : List Endpoint) → list_any (starts_entry j) marks ≡ false → count_by (starts_entry j) marks ≡ 0
some_counted j [] none = refl
some_counted j (m ∷ marks) none =
    let parts = or_parts (starts_entry j m) (list_any (starts_entry j) marks) none in
    let zero_here : tally (starts_entry j m) ≡ 0 = rw parts.0 refl in
    omega (arith, sum_by-cons (counted j) m marks, zero_here, some_counted j marks parts.1)

module _ (entries : List Entry) (marks : List Endpoint) (all : IsPermutation (endpoints_from 0 entries) marks) where
  pub marks_stand : All (IsMarkFrom 0 entries) marks
  marks_stand = All-permutation (IsMarkFrom 0 entries) (endpoints_from 0 entries) marks all (marks_are 0 entries)

  starts_once : (j : ℕ) → j < length entries → count_by (starts_entry j) marks ≡ 1
  starts_once j within =
      sum_by-IsPermutation (counted j) (endpoints_from 0 entries) marks all ∙ one_start 0 j entries (omega arith) (omega arith)

  pub starts_listed : (j : ℕ) → j < length entries → list_any (starts_entry j) marks ≡ true
  starts_listed j within = by (list_any (starts_entry j) marks) refl
    where
      by : (b : Bool) → list_any (starts_entry j) marks ≡ b → list_any (starts_entry j) marks ≡ true
      by true e = e
      by false e = absurd (omega (arith, starts_once j within, some_counted j marks e))

  -- no endpoint before an entry's start starts it
  pub not_before_start : (k j : ℕ) (d : Endpoint) → j < length entries → k < length marks → starts_entry j (get_or marks k d) ≡ true → list_any (starts_entry j) (take k marks) ≡ false
  not_before_start k j d within here is =
      none_counted j (take k marks) (omega (arith, starts_once j within, whole, sum_by-append (counted j) (take k marks) (drop k marks), rest, one))
    where
      whole : count_by (starts_entry j) marks ≡ count_by (starts_entry j) (take k marks ++ drop k marks)
      whole = ap (count_by (starts_entry j)) (sym (take-append-drop k marks))

      rest : count_by (starts_entry j) (drop k marks) ≡ tally (starts_entry j (get_or marks k d)) + count_by (starts_entry j) (drop (k + 1) marks)
      rest = ap (count_by (starts_entry j)) (drop_more marks k d here) ∙ sum_by-cons (counted j) (get_or marks k d) (drop (k + 1) marks)

      one : tally (starts_entry j (get_or marks k d)) ≡ 1
      one = rw is refl

  -- at its start, this many rows of its table have started
  pub row_number_at : (k j : ℕ) (d : Endpoint) → j < length entries → k < length marks → starts_entry j (get_or marks k d) ≡ true
      → row_number entries marks j ≡ count_by (starts_in entries (table_at entries j)) (take k marks)
  row_number_at k j d within here is =
      ap (λ n. count_by (starts_in entries (table_at entries j)) (take n marks))
      (position_or_len_is (starts_entry j) marks k d (omega arith) (λ i below. none_at i below (starts_entry j (get_or marks i d)) refl) (λ _. is))
    where
      none_at : (i : ℕ) → i < k → (b : Bool) → starts_entry j (get_or marks i d) ≡ b → b ≡ false
      none_at i below false e = refl
      none_at i below true e =
          let some = list_any_at (starts_entry j) (take k marks) i d (omega (arith, length-take-le k marks (omega arith))) (rw (get_or-take k marks i d below) e) in
          let none = not_before_start k j d within here is in
          cc (some, none)

  -- the end of an entry comes after its start
  pub start_before_end : (k : ℕ) (d : Endpoint) → k < length marks → (get_or marks k d).starts ≡ false → IsSorted endpoint_cmp marks → All (λ e. e.from < e.to) entries
      → list_any (starts_entry (get_or marks k d).entry) (take k marks) ≡ true
  start_before_end k d here ends sorted periods =
      let m = get_or marks k d in
      let stand = marks_stand k d here in
      let within : m.entry < length entries = omega (arith, stand.numbered, slice_get_within entries stand.place stand.entry stand.stands) in
      let (p, x, below, is, starts_it) = Any-from_list_any (starts_entry m.entry) marks (starts_listed m.entry within) in
      let same : get_or marks p d ≡ x = get_or_default marks p d x below ∙ is in
      let starts_here : starts_entry m.entry (get_or marks p d) ≡ true = rw same starts_it in
      elim (cases_lt p k) [
        | inl sooner ↦ list_any_at (starts_entry m.entry) (take k marks) p d (omega (arith, length-take-le k marks (omega arith))) (rw (get_or-take k marks p d sooner) starts_here)
        | inr not_sooner ↦
            let other = marks_stand p d below in
            let parts = and_parts (get_or marks p d).starts ((get_or marks p d).entry == m.entry) starts_here in
            let number = eqb-true (get_or marks p d).entry m.entry parts.1 in
            let places : other.place ≡ stand.place = omega (arith, other.numbered, stand.numbered, number) in
            let alike : other.entry ≡ stand.entry = same_entry other.place stand.place other.entry stand.entry places other.stands stand.stands in
            let period : stand.entry.from < stand.entry.to = rw (get_or_from_slice_get entries stand.place stand.entry stand.entry stand.stands) at (periods stand.place stand.entry (slice_get_within entries stand.place stand.entry stand.stands)) in
            let first : (get_or marks p d).at ≡ stand.entry.from = other.at_start parts.0 ∙ ap (λ (e : Entry). e.from) alike in
            let second : m.at ≡ stand.entry.to = stand.at_end ends in
            let less : (get_or marks p d).at < m.at = omega (arith, first, second, period) in
            let far = sorted_far (λ a b. is_lt (endpoint_cmp a b)) (ranks_by mark_total (λ a. a)) marks sorted k p d not_sooner below in
            absurd (contradicts (get_or marks p d) m less far)
      ]
    where
      same_entry : (a b : ℕ) (x y : Entry) → a ≡ b → slice_get entries a ≡ Some x → slice_get entries b ≡ Some y → x ≡ y
      same_entry a b x y e f g = cc

      contradicts : (a b : Endpoint) → a.at < b.at → is_lt (endpoint_cmp a b) ≡ false → ⊥
      contradicts a b less far =
          let yes : is_lt (endpoint_cmp a b) ≡ true = ap (λ r. is_lt (ordering_then (ordering_then r (bool_cmp a.starts b.starts)) (nat_cmp a.entry b.entry))) (sym (nat_cmp_is a.at b.at Less less)) in
          cc (yes, far)

-- an entry has one or two endpoints
pub few_marks : (n : ℕ) (entries : List Entry) → length (endpoints_from n entries) ≤ 2 * length entries
few_marks n [] = omega arith
few_marks n (e ∷ entries) =
    omega (arith, length-append (endpoints_of_entry n e) (endpoints_from (n + 1) entries), one_or_two (e.to == FOREVER), few_marks (n + 1) entries)
  where
    one_or_two : (b : Bool) → let marks : List Endpoint = record { at = e.from; starts = true; entry = n } ∷ (if b then [] else record { at = e.to; starts = false; entry = n } ∷ []) in length marks ≤ 2
    one_or_two true = omega arith
    one_or_two false = omega arith
