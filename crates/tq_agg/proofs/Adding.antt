-- Sums of signed numbers over lists.
use Rattle.std.proofs.Common.{◌≡◌, ℕ, suc, ◌+◌, ◌*◌, ◌^◌, ◌<◌, ℤ, pos, negsuc, neg_ℤ, ◌+ℤ◌, ◌-ℤ◌, ◌≤ℤ◌, Bool, true, false, cond, List, [], ◌∷◌, ◌++◌, length, take, get_or, map, filter, sum_by, refl, sym, ap, ◌∙◌, arith}
use Rattle.std.specs.Prelude.{All, IsPermutation}
use Rattle.std.proofs.lemmas.Int.{ints}
use Rattle.std.proofs.lemmas.List.{take_more}
use Rattle.std.proofs.lemmas.List.Elements.{All-head, All-tail}
use Rattle.std.proofs.lemmas.List.Sums.{sum_by-cons}
use Rattle.std.proofs.lemmas.List.Sorted.{sum_by-IsPermutation}
use Rattle.tq_agg.specs.Totals.{added}

pub added-append : {X : Type 0} (w : X → ℤ) (xs ys : List X) → added w (xs ++ ys) ≡ added w xs +ℤ added w ys
added-append w [] ys = omega (arith, ints)
added-append w (x ∷ xs) ys = omega (arith, ints, added-append w xs ys)

-- the sum over one more element
pub added-step : {X : Type 0} (w : X → ℤ) (xs : List X) (i : ℕ) (x : X) → i < length xs → x ≡ get_or xs i x → added w (take (i + 1) xs) ≡ added w (take i xs) +ℤ w x
added-step w xs i x lt is =
    ap (added w) (take_more xs i x lt ∙ ap (λ y. take i xs ++ y ∷ []) (sym is)) ∙ added-append w (take i xs) (x ∷ []) ∙ omega (arith, ints)

pub added-same : {X : Type 0} (v w : X → ℤ) → ((x : X) → v x ≡ w x) → (xs : List X) → added v xs ≡ added w xs
added-same v w same [] = refl
added-same v w same (x ∷ xs) = omega (arith, ints, same x, added-same v w same xs)

-- the number of elements, if each weighs 1
pub added-ones : {X : Type 0} (xs : List X) → added (λ (x : X). pos 1) xs ≡ pos (length xs)
added-ones [] = refl
added-ones {X} (x ∷ xs) = omega (arith, ints, added-ones xs)

pub added-map : {X Y : Type 0} (w : Y → ℤ) (f : X → Y) (xs : List X) → added w (map f xs) ≡ added (λ x. w (f x)) xs
added-map w f [] = refl
added-map w f (x ∷ xs) = omega (arith, ints, added-map w f xs)

pub added-filter : {X : Type 0} (p : X → Bool) (w : X → ℤ) (xs : List X) → added w (filter p xs) ≡ added (λ x. cond (p x) (w x) (pos 0)) xs
added-filter p w [] = refl
added-filter {X} p w (x ∷ xs) = cases (added-filter p w xs) (p x)
  where
    cases : added w (filter p xs) ≡ added (λ x. cond (p x) (w x) (pos 0)) xs → (b : Bool) → added w (cond b (x ∷ filter p xs) (filter p xs)) ≡ cond b (w x) (pos 0) +ℤ added (λ x. cond (p x) (w x) (pos 0)) xs
    cases rest true = omega (arith, ints, rest)
    cases rest false = omega (arith, ints, rest)

-- ---- orders

above : ℤ → ℕ
above (pos n) = n
above (negsuc n) = 0

below : ℤ → ℕ
below (pos n) = 0
below (negsuc n) = suc n

parts : (z : ℤ) → z ≡ pos (above z) -ℤ pos (below z)
unfolding above below
parts (pos n) = omega (arith, ints)
parts (negsuc n) = omega (arith, ints)

added-parts : {X : Type 0} (w : X → ℤ) (xs : List X) → added w xs ≡ pos (sum_by (λ x. above (w x)) xs) -ℤ pos (sum_by (λ x. below (w x)) xs)
added-parts w [] = refl
added-parts w (x ∷ xs) =
    omega (arith, ints, added-parts w xs, parts (w x), sum_by-cons (λ x. above (w x)) x xs, sum_by-cons (λ x. below (w x)) x xs)

-- no order of the elements changes their sum
pub added-IsPermutation : {X : Type 0} (w : X → ℤ) (xs ys : List X) → IsPermutation xs ys → added w ys ≡ added w xs
added-IsPermutation w xs ys same =
    omega (arith, ints, added-parts w xs, added-parts w ys, sum_by-IsPermutation (λ x. above (w x)) xs ys same, sum_by-IsPermutation (λ x. below (w x)) xs ys same)

-- ---- bounds

-- a sum of numbers of 64 signed bits, or of these taken away
pub added-bounds : {X : Type 0} (w : X → ℤ) (xs : List X) → All (λ x. (neg_ℤ (pos (2 ^ 63)) ≤ℤ w x) × (w x ≤ℤ pos (2 ^ 63))) xs
    → (neg_ℤ (pos (length xs * 2 ^ 63)) ≤ℤ added w xs) × (added w xs ≤ℤ pos (length xs * 2 ^ 63))
added-bounds w [] small = (omega (arith, ints), omega (arith, ints))
added-bounds w (x ∷ xs) small =
    let first = All-head (λ x. (neg_ℤ (pos (2 ^ 63)) ≤ℤ w x) × (w x ≤ℤ pos (2 ^ 63))) x xs small in
    let rest = added-bounds w xs (All-tail (λ x. (neg_ℤ (pos (2 ^ 63)) ≤ℤ w x) × (w x ≤ℤ pos (2 ^ 63))) x xs small) in
    (omega (arith, ints, first.0, rest.0), omega (arith, ints, first.1, rest.1))
