-- Every list has a sorted order of its elements.
use Rattle.std.proofs.Common.{◌≡◌, suc, zero, ◌+◌, Bool, true, false, cond, List, [], ◌∷◌, get_or, refl, sym, ap, subst, ◌∙◌, arith}
use Rattle.std.specs.Prelude.{IsSorted, IsPermutation}
use Rattle.std.specs.Ordering.{is_lt, ordering_reverse}
use Rattle.std.specs.declared.cmp.Ordering.{Ordering}
use Rattle.std.specs.declared.cmp.Ordering.TheVariants.{Less, Equal, Greater}
use Rattle.std.specs.Cmp.{IsTotalOrder}
use Rattle.std.proofs.lemmas.List.Sorted.{IsPermutation-refl, IsPermutation-sym, IsPermutation-trans, IsPermutation-cons, IsPermutation-middle}

module _ {X : Type 0} (R : X → X → Ordering) (o : IsTotalOrder R) where
  -- a new element is inserted before the first one that is not less
  abbrev put : X → List X → List X
  put x [] = x ∷ []
  put x (y ∷ ys) = cond (is_lt (R y x)) (y ∷ put x ys) (x ∷ y ∷ ys)

  put_moves : (x : X) (ys : List X) → IsPermutation (x ∷ ys) (put x ys)
  put_moves x [] = IsPermutation-refl (x ∷ [])
  put_moves x (y ∷ ys) = by (is_lt (R y x)) (put_moves x ys)
    where
      by : (b : Bool) → IsPermutation (x ∷ ys) (put x ys) → IsPermutation (x ∷ y ∷ ys) (cond b (y ∷ put x ys) (x ∷ y ∷ ys))
      by true moved =
          IsPermutation-trans (x ∷ y ∷ ys) (y ∷ x ∷ ys) (y ∷ put x ys)
          (IsPermutation-sym (y ∷ x ∷ ys) (x ∷ y ∷ ys) (IsPermutation-middle (y ∷ []) x ys))
          (IsPermutation-cons y (x ∷ ys) (put x ys) moved)
      by false moved = IsPermutation-refl (x ∷ y ∷ ys)

  sorted_one : (x : X) → IsSorted R (x ∷ [])
  sorted_one x k d low high = absurd (omega arith)

  sorted_more : (x y : X) (ys : List X) → is_lt (R y x) ≡ false → IsSorted R (y ∷ ys) → IsSorted R (x ∷ y ∷ ys)
  sorted_more x y ys up sorted zero d low high = up
  sorted_more x y ys up sorted (suc k) d low high =
      let next : k + 1 ≡ suc k = omega arith in
      let then : suc k + 1 ≡ suc (suc k) = omega arith in
      subst (λ j. is_lt (R (get_or (x ∷ y ∷ ys) j d) (get_or (y ∷ ys) k d)) ≡ false) (sym then)
      (subst (λ j. is_lt (R (get_or (y ∷ ys) j d) (get_or (y ∷ ys) k d)) ≡ false) next (sorted k d (omega arith) (omega arith)))

  pub sorted_tail : (x : X) (xs : List X) → IsSorted R (x ∷ xs) → IsSorted R xs
  sorted_tail x xs sorted k d low high =
      let next : suc k + 1 ≡ suc (k + 1) = omega arith in
      subst (λ j. is_lt (R (get_or (x ∷ xs) j d) (get_or xs k d)) ≡ false) next (sorted (suc k) d (omega arith) (omega arith))

  turned : (x y : X) → is_lt (R y x) ≡ true → is_lt (R x y) ≡ false
  turned x y less = by (R y x) refl less
    where
      by : (r : Ordering) → R y x ≡ r → is_lt r ≡ true → is_lt (R x y) ≡ false
      by Less e l = ap is_lt (o.antisymm x y ∙ ap ordering_reverse e)
      by Equal e l = cc (l)
      by Greater e l = cc (l)

  put_after : (y x : X) (ys : List X) → is_lt (R x y) ≡ false → IsSorted R (y ∷ ys) → IsSorted R (y ∷ put x ys)
  put_after y x [] up sorted = sorted_more y x [] up (sorted_one x)
  put_after y x (z ∷ zs) up sorted = by (is_lt (R z x)) refl (λ less. put_after z x zs less (sorted_tail y (z ∷ zs) sorted))
    where
      by : (b : Bool) → is_lt (R z x) ≡ b → (is_lt (R x z) ≡ false → IsSorted R (z ∷ put x zs)) → IsSorted R (y ∷ cond b (z ∷ put x zs) (x ∷ z ∷ zs))
      by true e rest = sorted_more y z (put x zs) (sorted 0 y (omega arith) (omega arith)) (rest (turned x z e))
      by false e rest = sorted_more y x (z ∷ zs) up (sorted_more x z zs e (sorted_tail y (z ∷ zs) sorted))

  put_sorted : (x : X) (ys : List X) → IsSorted R ys → IsSorted R (put x ys)
  put_sorted x [] sorted = sorted_one x
  put_sorted x (y ∷ ys) sorted = by (is_lt (R y x)) refl
    where
      by : (b : Bool) → is_lt (R y x) ≡ b → IsSorted R (cond b (y ∷ put x ys) (x ∷ y ∷ ys))
      by true e = put_after y x ys (turned x y e) sorted
      by false e = sorted_more x y ys e sorted

  pub record HasSorted (xs : List X) : Type 0 where
    pub order : List X
    pub same : IsPermutation xs order
    pub sorted : IsSorted R order

  pub has_sorted : (xs : List X) → HasSorted xs
  has_sorted [] = record { order = []; same = IsPermutation-refl []; sorted = λ k d low high. absurd (omega arith) }
  has_sorted (x ∷ xs) =
      let rest = has_sorted xs in
      record {
        order = put x rest.order;
        same = IsPermutation-trans (x ∷ xs) (x ∷ rest.order) (put x rest.order) (IsPermutation-cons x xs rest.order rest.same) (put_moves x rest.order);
        sorted = put_sorted x rest.order rest.sorted;
      }
