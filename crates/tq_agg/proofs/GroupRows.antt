-- The rows that groups make, counted: each key that occurs makes one row.
use Rattle.std.proofs.Common.{◌≡◌, ℕ, suc, ◌+◌, pos, ◌+ℤ◌, Bool, true, false, ◌||◌, cond, List, [], ◌∷◌, ◌++◌, length, take, map, sum_by, refl, sym, ap, ◌∙◌, arith}
use Rattle.std.specs.Prelude.{All, filter, not}
use Rattle.std.specs.Ordering.{eq_by_cmp, int_eq}
use Rattle.std.proofs.lemmas.Bool.{false≢true}
use Rattle.std.proofs.lemmas.Bool.Decides.{Decides-int_eq}
use Rattle.std.proofs.lemmas.Int.{ints}
use Rattle.std.proofs.lemmas.List.{length-map, take_at}
use Rattle.std.proofs.lemmas.List.Elements.{All-nil, All-cons, All-head, All-tail, All-weaker, All-filter}
use Rattle.std.proofs.lemmas.List.Sums.{sum_by-cons}
use Rattle.tq_base.specs.declared.value.Value.{Value}
use Rattle.tq_base.specs.Contents.{Int}
use Rattle.tq_base.specs.ValueOrder.{values_cmp, same_from_eq, eq_from_same}
use Rattle.tq_base.specs.Fragments.{occurrences}
use Rattle.tq_base.specs.RowValues.{number_of, value_at}
use Rattle.tq_condition.specs.Ordinary.{projection}
use Rattle.tq_agg.specs.declared.summands.Summand.TheVariants.{Column, One}
use Rattle.tq_agg.specs.Grouping.{each_once, first_row, group_row, grouped_rows, same_row, sum_at}
use Rattle.tq_agg.specs.Totals.{added, shown_copies, weight_of}
use Rattle.tq_agg.proofs.Adding.{added-filter}
use Rattle.tq_agg.proofs.Gathering.{added-ones}
use Rattle.tq_agg.proofs.Grouping.{of_key}
use Rattle.tq_agg.proofs.Instants.{one_if}

-- whether the key is among the keys
stands_in : List (List Value) → List Value → Bool
stands_in [] key = false
stands_in (k ∷ keys) key = same_row k key || stands_in keys key

sum_by-filter : {X : Type 0} (p : X → Bool) (w : X → ℕ) (xs : List X) → sum_by w (filter p xs) ≡ sum_by (λ x. cond (p x) (w x) 0) xs
sum_by-filter p w [] = refl
sum_by-filter {X} p w (x ∷ xs) = cases (sum_by-filter p w xs) (p x) ∙ sym (sum_by-cons (λ x. cond (p x) (w x) 0) x xs)
  where
    cases : sum_by w (filter p xs) ≡ sum_by (λ x. cond (p x) (w x) 0) xs → (b : Bool) → sum_by w (cond b (x ∷ filter p xs) (filter p xs)) ≡ cond b (w x) 0 + sum_by (λ x. cond (p x) (w x) 0) xs
    cases rest true = omega (arith, sum_by-cons w x (filter p xs), rest)
    cases rest false = omega (arith, rest)

sum_by-same : {X : Type 0} (P : X → Type 0) (f g : X → ℕ) → ((x : X) → P x → f x ≡ g x) → (xs : List X) → All P xs → sum_by f xs ≡ sum_by g xs
sum_by-same P f g same [] all = refl
sum_by-same P f g same (x ∷ xs) all =
    omega (arith, sum_by-cons f x xs, sum_by-cons g x xs, same x (All-head P x xs all), sum_by-same P f g same xs (All-tail P x xs all))

-- the keys once, those that are the key alone
module _ (key : List Value) (m : ℕ) where
  -- behind the key no other is the key
  none_behind : (k other : List Value) → same_row k key ≡ true → cond (not (same_row other k)) (cond (same_row other key) m 0) 0 ≡ 0
  none_behind k other is = split (same_row other key) refl
    where
      cases : (b : Bool) → let none : ℕ = 0 in cond b none none ≡ none
      cases true = refl
      cases false = refl

      split : (b : Bool) → same_row other key ≡ b → cond (not (same_row other k)) (cond b m 0) 0 ≡ 0
      split true other_is =
          let same = eq_from_same other k (same_from_eq other key other_is ∙ sym (same_from_eq k key is)) in
          ap (λ b. cond (not b) m 0) same
      split false other_is = cases (not (same_row other k))

  -- behind another each stays
  all_behind : (k other : List Value) → same_row k key ≡ false → cond (not (same_row other k)) (cond (same_row other key) m 0) 0 ≡ cond (same_row other key) m 0
  all_behind k other is_not = split (same_row other key) refl
    where
      cases : (b : Bool) → let none : ℕ = 0 in cond b none none ≡ none
      cases true = refl
      cases false = refl

      split : (b : Bool) → same_row other key ≡ b → cond (not (same_row other k)) (cond b m 0) 0 ≡ cond b m 0
      split true other_is = ap (λ b. cond (not b) m 0) (differs (same_row other k) refl)
        where
          differs : (b : Bool) → same_row other k ≡ b → same_row other k ≡ false
          differs true is = absurd (false≢true (sym is_not ∙ eq_from_same k key (sym (same_from_eq other k is) ∙ same_from_eq other key other_is)))
          differs false is = is
      split false other_is = cases (not (same_row other k))

  once : (keys : List (List Value)) → sum_by (λ k. cond (same_row k key) m 0) (each_once keys) ≡ cond (stands_in keys key) m 0
  unfolding stands_in
  once [] = refl
  once (k ∷ keys) =
      sum_by-cons (λ k. cond (same_row k key) m 0) k (filter (λ other. not (same_row other k)) (each_once keys))
      ∙ ap (λ n. cond (same_row k key) m 0 + n) (sum_by-filter (λ other. not (same_row other k)) (λ k. cond (same_row k key) m 0) (each_once keys))
      ∙ split (same_row k key) refl (once keys)
    where
      all : All (λ (u : List Value). Unit {0}) (each_once keys)
      all i d lt = tt

      split : (b : Bool) → same_row k key ≡ b → sum_by (λ k. cond (same_row k key) m 0) (each_once keys) ≡ cond (stands_in keys key) m 0
          → cond b m 0 + sum_by (λ other. cond (not (same_row other k)) (cond (same_row other key) m 0) 0) (each_once keys) ≡ cond (b || stands_in keys key) m 0
      split true is rest =
          let zeros = sum_by-same (λ u. Unit {0}) (λ other. cond (not (same_row other k)) (cond (same_row other key) m 0) 0) (λ other. 0) (λ other u. none_behind k other is) (each_once keys) all in
          let none = sum_zero (each_once keys) in
          omega (arith, zeros, none)
        where
          sum_zero : (xs : List (List Value)) → sum_by (λ (x : List Value). 0) xs ≡ 0
          sum_zero [] = refl
          sum_zero (x ∷ xs) = omega (arith, sum_by-cons (λ (x : List Value). 0) x xs, sum_zero xs)
      split false is rest =
          let stay = sum_by-same (λ u. Unit {0}) (λ other. cond (not (same_row other k)) (cond (same_row other key) m 0) 0) (λ other. cond (same_row other key) m 0) (λ other u. all_behind k other is) (each_once keys) all in
          omega (arith, stay, rest)

All-each_once : (P : List Value → Type 0) (keys : List (List Value)) → All P keys → All P (each_once keys)
All-each_once P [] all = all
All-each_once P (k ∷ keys) all =
    All-cons P k (filter (λ other. not (same_row other k)) (each_once keys)) (All-head P k keys all)
    (All-filter (λ other. not (same_row other k)) P (each_once keys) (All-each_once P keys (All-tail P k keys all)))

or_true : (b : Bool) → (b || true) ≡ true
or_true true = refl
or_true false = refl

-- each key is among the keys
all_stand : (keys : List (List Value)) → All (λ k. stands_in keys k ≡ true) keys
unfolding stands_in
all_stand [] = All-nil (λ k. stands_in [] k ≡ true)
all_stand (k ∷ keys) =
    All-cons (λ u. (same_row k u || stands_in keys u) ≡ true) k keys (ap (λ b. b || stands_in keys k) (eq_from_same k k refl))
    (All-weaker (λ u. stands_in keys u ≡ true) (λ u. (same_row k u || stands_in keys u) ≡ true) (λ u is. ap (λ b. same_row k u || b) is ∙ or_true (same_row k u)) keys (all_stand keys))

module _ (keys sums : List ℕ) where
  abbrev group_of : List (List Value) → List Value → List (List Value)
  group_of rows key = filter (λ row. same_row (projection keys row) key) rows

  -- a key that occurs is that of the first row of its group
  first_has_key : (rows : List (List Value)) (key : List Value) → stands_in (map (projection keys) rows) key ≡ true → projection keys (first_row (group_of rows key)) ≡ key
  unfolding stands_in
  first_has_key [] key is = cc
  first_has_key (row ∷ rows) key is = split (same_row (projection keys row) key) refl is (first_has_key rows key)
    where
      split : (b : Bool) → same_row (projection keys row) key ≡ b → (b || stands_in (map (projection keys) rows) key) ≡ true
          → (stands_in (map (projection keys) rows) key ≡ true → projection keys (first_row (group_of rows key)) ≡ key)
          → projection keys (first_row (cond b (row ∷ group_of rows key) (group_of rows key))) ≡ key
      split true same is rest = same_from_eq (projection keys row) key same
      split false differ is rest = rest is

  not_none : (n : ℕ) → not (int_eq (pos (suc n)) (pos 0)) ≡ true
  not_none n = split (int_eq (pos (suc n)) (pos 0)) refl
    where
      split : (b : Bool) → int_eq (pos (suc n)) (pos 0) ≡ b → not b ≡ true
      split true is = let zero' = (Decides-int_eq (pos (suc n)) (pos 0)).0 is in absurd (omega (arith, ints, zero'))
      split false is = refl

  -- a key occurs exactly if its group has a row
  stands_counted : (rows : List (List Value)) (key : List Value) → not (int_eq (pos (length (group_of rows key))) (pos 0)) ≡ stands_in (map (projection keys) rows) key
  unfolding stands_in
  stands_counted [] key = refl
  stands_counted (row ∷ rows) key = split (same_row (projection keys row) key) (stands_counted rows key)
    where
      split : (b : Bool) → not (int_eq (pos (length (group_of rows key))) (pos 0)) ≡ stands_in (map (projection keys) rows) key
          → not (int_eq (pos (length (cond b (row ∷ group_of rows key) (group_of rows key)))) (pos 0)) ≡ (b || stands_in (map (projection keys) rows) key)
      split true rest = not_none (length (group_of rows key))
      split false rest = rest

  sum_is : (place : ℕ) (group : List (List Value)) → added (weight_of (Column place)) group ≡ sum_at place group
  sum_is place [] = refl
  sum_is place (row ∷ group) = ap (λ n. number_of (value_at row place) +ℤ n) (sum_is place group)

  -- the totals of the rows of a key are the count and the sums of its group
  totals_are : (rows : List (List Value)) (key : List Value) (places : List ℕ)
      → map Int (map (λ s. added (of_key keys key s) rows) (map Column places)) ≡ map (λ place. Int (sum_at place (group_of rows key))) places
  totals_are rows key [] = refl
  totals_are rows key (place ∷ places) =
      let first : added (of_key keys key (Column place)) rows ≡ sum_at place (group_of rows key) =
      sym (added-filter (λ row. same_row (projection keys row) key) (weight_of (Column place)) rows) ∙ sum_is place (group_of rows key) in
      let rest = totals_are rows key places in
      ap (λ n. Int n ∷ map Int (map (λ s. added (of_key keys key s) rows) (map Column places))) first ∙ ap (λ l. Int (sum_at place (group_of rows key)) ∷ l) rest

  count_is : (rows : List (List Value)) (key : List Value) → added (of_key keys key One) rows ≡ pos (length (group_of rows key))
  count_is rows key = sym (added-filter (λ row. same_row (projection keys row) key) (weight_of One) rows) ∙ added-ones (group_of rows key)

  module _ (rows : List (List Value)) (v : List Value) where
    abbrev made : List Value → List Value
    made key = group_row keys sums (group_of rows key)

    -- the values of the key, which come first
    abbrev key_of_row : List Value
    key_of_row = take (length keys) v

    abbrev stands : List Value → Bool
    stands key = stands_in (map (projection keys) rows) key

    -- a group's row begins with its key
    begins_with : (key : List Value) → stands key ≡ true → take (length keys) (made key) ≡ key
    begins_with key there =
        take_at (projection keys (first_row (group_of rows key))) (Int (pos (length (group_of rows key))) ∷ map (λ place. Int (sum_at place (group_of rows key))) sums) (length keys)
        (length-map keys (value_at (first_row (group_of rows key))))
        ∙ first_has_key rows key there

    -- so the one group that can make the row is that of the key with which the row begins
    of_one_key : (key : List Value) → stands key ≡ true
        → one_if (same_row (made key) v) ≡ cond (same_row key key_of_row) (one_if (same_row (made key_of_row) v)) 0
    of_one_key key there = split (same_row (made key) v) refl (same_row key key_of_row) refl
      where
        split : (a : Bool) → same_row (made key) v ≡ a → (b : Bool) → same_row key key_of_row ≡ b → one_if a ≡ cond b (one_if (same_row (made key_of_row) v)) 0
        split a is true same = ap one_if (sym is) ∙ ap (λ k. one_if (same_row (made k) v)) (same_from_eq key key_of_row same)
        split true is false differ =
            let same : key ≡ key_of_row = sym (begins_with key there) ∙ ap (take (length keys)) (same_from_eq (made key) v is) in
            absurd (false≢true (sym differ ∙ eq_from_same key key_of_row same))
        split false is false differ = refl

    occurrences-map : (ks : List (List Value)) → occurrences (map (group_row keys sums) (map (λ key. group_of rows key) ks)) v ≡ sum_by (λ key. one_if (same_row (made key) v)) ks
    occurrences-map [] = refl
    occurrences-map (k ∷ ks) =
        sum_by-cons (λ u. one_if (eq_by_cmp values_cmp u v)) (made k) (map (group_row keys sums) (map (λ key. group_of rows key) ks))
        ∙ ap (λ n. one_if (same_row (made k) v) + n) (occurrences-map ks) ∙ sym (sum_by-cons (λ key. one_if (same_row (made key) v)) k ks)

    -- the row occurs once among those of the groups if its key occurs and the rest are count and sums
    pub grouped_occurrences : occurrences (grouped_rows keys sums rows) v
        ≡ shown_copies key_of_row (map (λ s. added (of_key keys key_of_row s) rows) (One ∷ map Column sums)) v
    grouped_occurrences =
        occurrences-map (each_once (map (projection keys) rows))
        ∙ sum_by-same (λ k. stands k ≡ true) (λ k. one_if (same_row (made k) v)) (λ k. cond (same_row k key_of_row) (one_if (same_row (made key_of_row) v)) 0)
        of_one_key (each_once (map (projection keys) rows)) (All-each_once (λ k. stands k ≡ true) (map (projection keys) rows) (all_stand (map (projection keys) rows)))
        ∙ once key_of_row (one_if (same_row (made key_of_row) v)) (map (projection keys) rows)
        ∙ shown (stands key_of_row) refl
        ∙ ap (λ b. cond b (one_if (same_row (key_of_row ++ Int (added (of_key keys key_of_row One) rows) ∷ map Int (map (λ s. added (of_key keys key_of_row s) rows) (map Column sums))) v)) 0)
        (sym (stands_counted rows key_of_row) ∙ ap (λ n. not (int_eq n (pos 0))) (sym (count_is rows key_of_row)))
      where
        shown : (b : Bool) → stands key_of_row ≡ b
            → cond b (one_if (same_row (made key_of_row) v)) 0
            ≡ cond b (one_if (same_row (key_of_row ++ Int (added (of_key keys key_of_row One) rows) ∷ map Int (map (λ s. added (of_key keys key_of_row s) rows) (map Column sums))) v)) 0
        shown true there =
            ap (λ k. one_if (same_row (k ++ Int (pos (length (group_of rows key_of_row))) ∷ map (λ place. Int (sum_at place (group_of rows key_of_row))) sums) v)) (first_has_key rows key_of_row there)
            ∙ ap (λ n. one_if (same_row (key_of_row ++ Int n ∷ map (λ place. Int (sum_at place (group_of rows key_of_row))) sums) v)) (sym (count_is rows key_of_row))
            ∙ ap (λ l. one_if (same_row (key_of_row ++ Int (added (of_key keys key_of_row One) rows) ∷ l) v)) (sym (totals_are rows key_of_row sums))
        shown false none = refl
