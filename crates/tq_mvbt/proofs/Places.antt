-- Elements by their positions.
use Rattle.std.proofs.Common.{◌≡◌, ◌≢◌, ℕ, zero, suc, ◌+◌, ◌-◌, ◌<◌, ◌≤◌, ◌⊎◌, inl, inr, Bool, true, List, [], ◌∷◌, ◌++◌, length, set, ap, refl, ◌∙◌, arith, count_by, slice_get, Some}
use Rattle.std.specs.Prelude.{All}
use Rattle.std.proofs.lemmas.List.Elements.{All-nil, All-cons}
use Rattle.std.proofs.lemmas.List.Sums.{sum_by-cons}
use Rattle.tq_mvbt.specs.Shape.{tally}

pub at_set_same : {X : Type 0} (xs : List X) (i : ℕ) (y : X) → i < length xs → slice_get (set xs i y) i ≡ Some y
at_set_same [] i y l = absurd (omega arith)
at_set_same (x ∷ xs) zero y l = refl
at_set_same (x ∷ xs) (suc i) y l = at_set_same xs i y (omega arith)

pub at_set_other : {X : Type 0} (xs : List X) (i j : ℕ) (y : X) → i ≢ j → slice_get (set xs i y) j ≡ slice_get xs j
at_set_other [] i j y n = refl
at_set_other (x ∷ xs) zero zero y n = absurd (n refl)
at_set_other (x ∷ xs) zero (suc j) y n = refl
at_set_other (x ∷ xs) (suc i) zero y n = refl
at_set_other (x ∷ xs) (suc i) (suc j) y n = at_set_other xs i j y (λ e. n (ap suc e))

pub at_left : {X : Type 0} (xs ys : List X) (i : ℕ) (x : X) → slice_get xs i ≡ Some x → slice_get (xs ++ ys) i ≡ Some x
at_left [] ys i x e = cc
at_left (a ∷ xs) ys zero x e = e
at_left (a ∷ xs) ys (suc i) x e = at_left xs ys i x e

pub at_right : {X : Type 0} (xs ys : List X) (i : ℕ) → slice_get (xs ++ ys) (length xs + i) ≡ slice_get ys i
at_right [] ys i = let e : 0 + i ≡ i = omega arith in rw e refl
at_right (a ∷ xs) ys i = let e : suc (length xs) + i ≡ suc (length xs + i) = omega arith in rw e (at_right xs ys i)

pub at_append : {X : Type 0} (xs ys : List X) (i : ℕ) (x : X) → slice_get (xs ++ ys) i ≡ Some x → (slice_get xs i ≡ Some x) ⊎ (slice_get ys (i - length xs) ≡ Some x)
at_append [] ys i x e = inr (let z : i - 0 ≡ i = omega arith in rw z e)
at_append (a ∷ xs) ys zero x e = inl e
at_append (a ∷ xs) ys (suc i) x e = let z : suc i - suc (length xs) ≡ i - length xs = omega arith in rw z (at_append xs ys i x e)

pub all_from_places : {X : Type 0} (P : X → Type 0) (xs : List X) → ((i : ℕ) (x : X) → slice_get xs i ≡ Some x → P x) → All P xs
all_from_places P [] f = All-nil P
all_from_places P (x ∷ xs) f = All-cons P x xs (f 0 x refl) (all_from_places P xs (λ i y e. f (suc i) y e))

pub one_passes : {X : Type 0} (p : X → Bool) (xs : List X) (i : ℕ) (x : X) → slice_get xs i ≡ Some x → p x ≡ true → 1 ≤ count_by p xs
one_passes p [] i x e t = cc
one_passes p (a ∷ xs) zero x e t =
    let same : a ≡ x = cc in
    let one : tally (p a) ≡ 1 = ap tally (ap p same ∙ t) in
    omega (arith, one, sum_by-cons (λ y. tally (p y)) a xs)
one_passes p (a ∷ xs) (suc i) x e t =
    omega (arith, one_passes p xs i x e t, sum_by-cons (λ y. tally (p y)) a xs)

pub two_pass : {X : Type 0} (p : X → Bool) (xs : List X) (i j : ℕ) (x y : X) → i ≢ j → slice_get xs i ≡ Some x → slice_get xs j ≡ Some y → p x ≡ true → p y ≡ true → 2 ≤ count_by p xs
two_pass p [] i j x y n e f t u = cc
two_pass p (a ∷ xs) zero zero x y n e f t u = absurd (n refl)
two_pass p (a ∷ xs) zero (suc j) x y n e f t u =
    let same : a ≡ x = cc in
    let one : tally (p a) ≡ 1 = ap tally (ap p same ∙ t) in
    omega (arith, one, one_passes p xs j y f u, sum_by-cons (λ z. tally (p z)) a xs)
two_pass p (a ∷ xs) (suc i) zero x y n e f t u =
    let same : a ≡ y = cc in
    let one : tally (p a) ≡ 1 = ap tally (ap p same ∙ u) in
    omega (arith, one, one_passes p xs i x e t, sum_by-cons (λ z. tally (p z)) a xs)
two_pass p (a ∷ xs) (suc i) (suc j) x y n e f t u =
    omega (arith, two_pass p xs i j x y (λ s. n (ap suc s)) e f t u, sum_by-cons (λ z. tally (p z)) a xs)
