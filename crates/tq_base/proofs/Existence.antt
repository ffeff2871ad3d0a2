-- Layers exist: the sweep and the pass over groups, as functions on lists.
use Rattle.std.proofs.Common.{◌≡◌, ◌≢◌, ℕ, zero, suc, ◌+◌, ◌<◌, ◌≤◌, Bool, true, false, cond, List, [], ◌∷◌, ◌++◌, length, get_or, take, drop, map, refl, sym, ap, subst, arith, inl, inr, IfSome, slice_get}
use Rattle.std.specs.Prelude.{All, IsSorted, IsPermutation}
use Rattle.std.specs.Cmp.{IsTotalOrder, nat_cmp_total}
use Rattle.std.specs.Ordering.{eq_by_cmp, is_lt, is_gt, ordering_reverse, nat_cmp}
use Rattle.std.specs.declared.cmp.Ordering.{Ordering}
use Rattle.std.specs.declared.cmp.Ordering.TheVariants.{Less, Equal, Greater}
use Rattle.std.proofs.lemmas.Cmp.{upto}
use Rattle.std.proofs.lemmas.Bool.{cases_lt}
use Rattle.std.proofs.lemmas.List.{length-drop, take-append-drop}
use Rattle.std.proofs.lemmas.List.Elements.{All-nil, All-cons, All-weaker}
use Rattle.std.proofs.lemmas.List.Sorted.{IsPermutation-refl, IsPermutation-cons, IsPermutation-trans, IsPermutation-middle, IsPermutation-sym, All-permutation}
use Rattle.tq_base.specs.declared.period.Period.{Period}
use Rattle.tq_base.specs.declared.value.Value.{Value}
use Rattle.tq_base.specs.declared.fragment.Fragment.{Fragment}
use Rattle.tq_base.specs.ValueOrder.{values_cmp, same_from_eq, eq_from_same}
use Rattle.tq_base.specs.Fragments.{fragment_cmp, fragment_total, copies}
use Rattle.tq_base.specs.Layers.{IsLayers}
use Rattle.tq_base.specs.Layering.{IsLayering, period_cmp, period_total}
use Rattle.tq_base.specs.Layering.{rows_of}
use Rattle.tq_base.specs.Sweep.{Sweep, begun, finished, reordered, opens, cancels, closes, some_open, opened_before, pairs_head}
use Rattle.tq_base.specs.Groups.{Grouping, grouping_starts, grouping_ends, closes_group}

-- ---- a sorted list

module _ {X : Type 0} (R : X → X → Ordering) (o : IsTotalOrder R) where
  abbrev place : X → List X → List X
  place x [] = x ∷ []
  place x (y ∷ ys) = cond (is_gt (R x y)) (y ∷ place x ys) (x ∷ y ∷ ys)

  abbrev in_order : List X → List X
  in_order [] = []
  in_order (x ∷ xs) = place x (in_order xs)

  place_moves : (x : X) (ys : List X) → IsPermutation (x ∷ ys) (place x ys)
  place_moves x [] = IsPermutation-refl (x ∷ [])
  place_moves x (y ∷ ys) = split (is_gt (R x y)) (place_moves x ys)
    where
      split : (b : Bool) → IsPermutation (x ∷ ys) (place x ys) → IsPermutation (x ∷ y ∷ ys) (cond b (y ∷ place x ys) (x ∷ y ∷ ys))
      split false rest = IsPermutation-refl (x ∷ y ∷ ys)
      split true rest =
          IsPermutation-trans (x ∷ y ∷ ys) (y ∷ x ∷ ys) (y ∷ place x ys)
          (IsPermutation-sym (y ∷ x ∷ ys) (x ∷ y ∷ ys) (IsPermutation-middle (y ∷ []) x ys))
          (IsPermutation-cons y (x ∷ ys) (place x ys) rest)

  pub in_order_moves : (xs : List X) → IsPermutation xs (in_order xs)
  in_order_moves [] = IsPermutation-refl []
  in_order_moves (x ∷ xs) =
      IsPermutation-trans (x ∷ xs) (x ∷ in_order xs) (place x (in_order xs)) (IsPermutation-cons x xs (in_order xs) (in_order_moves xs)) (place_moves x (in_order xs))

  abbrev Ordered : List X → Type 0
  Ordered [] = Unit {0}
  Ordered (x ∷ xs) = All (λ y. is_gt (R x y) ≡ false) xs × Ordered xs

  turned : (x y : X) → is_gt (R x y) ≡ true → is_gt (R y x) ≡ false
  turned x y above = by (R x y) (o.antisymm y x) above
    where
      by : (r : Ordering) → R y x ≡ ordering_reverse r → is_gt r ≡ true → is_gt (R y x) ≡ false
      by Less e a = cc
      by Equal e a = cc
      by Greater e a = ap is_gt e

  place_orders : (x : X) (ys : List X) → Ordered ys → Ordered (place x ys)
  place_orders x [] ordered = (All-nil (λ y. is_gt (R x y) ≡ false), tt)
  place_orders x (y ∷ ys) ordered = split (is_gt (R x y)) refl (place_orders x ys ordered.1)
    where
      split : (b : Bool) → is_gt (R x y) ≡ b → Ordered (place x ys) → Ordered (cond b (y ∷ place x ys) (x ∷ y ∷ ys))
      split false is rest =
          (All-cons (λ z. is_gt (R x z) ≡ false) y ys is (All-weaker (λ z. is_gt (R y z) ≡ false) (λ z. is_gt (R x z) ≡ false) (λ z le. upto o x y z is le) ys ordered.0), ordered)
      split true is rest =
          (All-permutation (λ z. is_gt (R y z) ≡ false) (x ∷ ys) (place x ys) (place_moves x ys) (All-cons (λ z. is_gt (R y z) ≡ false) x ys (turned x y is) ordered.0), rest)

  in_order_ordered : (xs : List X) → Ordered (in_order xs)
  in_order_ordered [] = tt
  in_order_ordered (x ∷ xs) = place_orders x (in_order xs) (in_order_ordered xs)

  not_less : (x y : X) → is_gt (R x y) ≡ false → is_lt (R y x) ≡ false
  not_less x y le = by (R x y) (o.antisymm y x) le
    where
      by : (r : Ordering) → R y x ≡ ordering_reverse r → is_gt r ≡ false → is_lt (R y x) ≡ false
      by Less e a = ap is_lt e
      by Equal e a = ap is_lt e
      by Greater e a = cc

  sorted_from : (xs : List X) → Ordered xs → (k : ℕ) (d : X) → suc k < length xs → is_lt (R (get_or xs (suc k) d) (get_or xs k d)) ≡ false
  sorted_from [] ordered k d lt = absurd (omega arith)
  sorted_from (x ∷ xs) ordered zero d lt = not_less x (get_or xs 0 d) (ordered.0 0 d (omega arith))
  sorted_from (x ∷ xs) ordered (suc k) d lt = sorted_from xs ordered.1 k d (omega arith)

  pub in_order_sorted : (xs : List X) → IsSorted R (in_order xs)
  in_order_sorted xs k d low high =
      let next : suc k ≡ k + 1 = omega arith in
      subst (λ j. is_lt (R (get_or (in_order xs) j d) (get_or (in_order xs) k d)) ≡ false) next (sorted_from (in_order xs) (in_order_ordered xs) k d (omega arith))

-- ---- the sweep

last_of : (xs : List ℕ) → 0 < length xs → (front : List ℕ) × (x : ℕ) × (xs ≡ front ++ x ∷ [])
last_of [] some = absurd (omega arith)
last_of (x ∷ []) some = ([], x, refl)
last_of (x ∷ y ∷ ys) some =
    let rest = last_of (y ∷ ys) (omega arith) in
    (x ∷ rest.0, rest.1, ap (λ l. x ∷ l) rest.2)

module _ (periods : List Period) where
  swept : (n : ℕ) (starts ends opened : List ℕ) (made : List Period) → length starts + length ends ≤ n → Sweep periods starts ends opened made → (layering : List Period) × IsLayering periods layering
  swept n starts [] opened made enough w = (made, finished periods starts opened made w)
  swept zero starts (e ∷ ends) opened made enough w = absurd (omega arith)
  swept (suc n) [] (e ∷ ends) opened made enough w =
      let after : All (λ s. e < s) [] = All-nil (λ s. e < s) in
      let last = last_of opened (some_open periods [] e ends opened made after w) in
      let lt : last.1 < e = opened_before periods w last.1 e ends last.0 refl last.2 in
      let p : Period = record { start = last.1; end = e; ordered = lt } in
      swept n [] ends last.0 (made ++ p ∷ []) (omega arith) (closes periods [] e ends last.0 p made refl after (subst (λ l. Sweep periods [] (e ∷ ends) l made) last.2 w))
  swept (suc n) (s ∷ starts) (e ∷ ends) opened made enough w = elim (cases_lt s e) [
    | inl before ↦ swept n starts (e ∷ ends) (opened ++ s ∷ []) made (omega arith) (opens periods s starts e ends opened made before w)
    | inr not_before ↦ elim (cases_lt e s) [
      | inr not_after ↦ swept n starts ends opened made (omega arith) (cancels periods s starts e ends opened made (omega arith) w)
      | inl later ↦
          let after : All (λ s. e < s) (s ∷ starts) = All-cons (λ s. e < s) s starts later (All-weaker (λ r. s ≤ r) (λ r. e < r) (λ r le. omega arith) starts (pairs_head (λ x y. x ≤ y) s starts w.starts_rise)) in
          let last = last_of opened (some_open periods (s ∷ starts) e ends opened made after w) in
          let lt : last.1 < e = opened_before periods w last.1 e ends last.0 refl last.2 in
          let p : Period = record { start = last.1; end = e; ordered = lt } in
          swept n (s ∷ starts) ends last.0 (made ++ p ∷ []) (omega arith) (closes periods (s ∷ starts) e ends last.0 p made refl after (subst (λ l. Sweep periods (s ∷ starts) (e ∷ ends) l made) last.2 w))
    ]
  ]

  pub layering_exists : (layering : List Period) × IsLayering periods layering
  layering_exists =
      let starts = map (λ (p : Period). p.start) periods in
      let ends = map (λ (p : Period). p.end) periods in
      swept (length (in_order nat_cmp nat_cmp_total starts) + length (in_order nat_cmp nat_cmp_total ends)) _ _ [] [] (omega arith)
      (begun periods (in_order nat_cmp nat_cmp_total starts) (in_order nat_cmp nat_cmp_total ends) (in_order_moves nat_cmp nat_cmp_total starts) (in_order_sorted nat_cmp nat_cmp_total starts) (in_order_moves nat_cmp nat_cmp_total ends) (in_order_sorted nat_cmp nat_cmp_total ends))

ordered_layering_exists : (periods : List Period) → (layering : List Period) × IsLayering periods layering × IsSorted period_cmp layering
ordered_layering_exists periods =
    let (layering, is) = layering_exists periods in
    (in_order period_cmp period_total layering, reordered periods layering (in_order period_cmp period_total layering) (in_order_moves period_cmp period_total layering) is, in_order_sorted period_cmp period_total layering)

-- ---- the groups

-- the number of rows at the front that have the values
record Front (v : List Value) (rows : List Fragment) : Type 0 where
  len : ℕ
  alike : All (λ f. f.values ≡ v) (take len rows)
  differs : IfSome (slice_get (drop len rows) 0) (λ f. f.values ≢ v)

front_of : (v : List Value) (rows : List Fragment) → Front v rows
front_of v [] = record { len = 0; alike = All-nil (λ f. f.values ≡ v); differs = tt }
front_of v (f ∷ rows) = split (eq_by_cmp values_cmp f.values v) refl (front_of v rows)
  where
    split : (b : Bool) → eq_by_cmp values_cmp f.values v ≡ b → Front v rows → Front v (f ∷ rows)
    split true is rest = record {
      len = suc rest.len;
      alike = All-cons (λ g. g.values ≡ v) f (take rest.len rows) (same_from_eq f.values v is) rest.alike;
      differs = rest.differs;
    }
    split false is rest = record { len = 0; alike = All-nil (λ g. g.values ≡ v); differs = λ same. let e = eq_from_same f.values v same in cc }

module _ (rows : List Fragment) where
  grouped : (n : ℕ) (rest table : List Fragment) → length rest ≤ n → Grouping rows rest table → (out : List Fragment) × Grouping rows [] out
  grouped n [] table enough w = (table, w)
  grouped zero (x ∷ rest) table enough w = absurd (omega arith)
  grouped (suc n) (x ∷ rest) table enough w =
      let front = front_of x.values rest in
      let group = x ∷ take front.len rest in
      let layering = ordered_layering_exists (map (λ f. f.period) group) in
      let new = table ++ rows_of x.values layering.0 in
      let split : x ∷ rest ≡ group ++ drop front.len rest = ap (λ l. x ∷ l) (sym (take-append-drop front.len rest)) in
      let next = closes_group rows group (drop front.len rest) table new x.values (subst (λ l. Grouping rows l table) split w) (All-cons (λ g. g.values ≡ x.values) x (take front.len rest) refl front.alike) front.differs (record { layering = layering.0; is_layering = layering.1; in_order = layering.2; added = refl }) in
      grouped n (drop front.len rest) new (omega (arith, length-drop front.len rest)) next

  pub layers_exist : (table : List Fragment) × IsLayers (copies rows) table
  layers_exist =
      let sorted = in_order fragment_cmp fragment_total rows in
      let done = grouped (length sorted) sorted [] (omega arith) (grouping_starts rows sorted (in_order_moves fragment_cmp fragment_total rows) (in_order_sorted fragment_cmp fragment_total rows)) in
      (done.0, grouping_ends rows done.0 done.1)
