-- Lists: a pass that changes each element in place.
use Rattle.std.proofs.Common.{◌≡◌, ℕ, zero, suc, ◌<◌, Bool, List, [], ◌∷◌, ◌++◌, length, take, drop, map, get_or, set, ap, refl, subst, arith, count_by, slice_get, Some}
use Rattle.std.specs.Prelude.{All}
use Rattle.std.proofs.lemmas.Option.{get_or_from_slice_get, slice_get_within}
use Rattle.std.proofs.lemmas.List.Elements.{All-nil, All-cons, All-head, All-tail, All-get_or}
use Rattle.std.proofs.lemmas.List.Sums.{sum_by-cons}
use Rattle.tq_mvbt.specs.Shape.{tally}

-- one more element changed
pub map-set : {X : Type 0} (f : X → X) (xs : List X) (i : ℕ) (d : X) → i < length xs → set (map f (take i xs) ++ drop i xs) i (f (get_or (map f (take i xs) ++ drop i xs) i d)) ≡ map f (take (suc i) xs) ++ drop (suc i) xs
map-set f [] i d h = absurd (omega arith)
map-set f (x ∷ xs) zero d h = refl
map-set f (x ∷ xs) (suc i) d h = ap (λ l. f x ∷ l) (map-set f xs i d (omega arith))

-- what holds for each element holds for the one at a position
pub all_at : {X : Type 0} (P : X → Type 0) (xs : List X) (i : ℕ) (x : X) → All P xs → slice_get xs i ≡ Some x → P x
all_at P xs i x a s = subst P (get_or_from_slice_get xs i x x s) (All-get_or P xs i x (slice_get_within xs i x s) a)

-- two facts about each element give a third
pub all_both : {X : Type 0} (P Q R : X → Type 0) → ((x : X) → P x → Q x → R x) → (xs : List X) → All P xs → All Q xs → All R xs
all_both P Q R f [] a b = All-nil R
all_both P Q R f (x ∷ xs) a b = All-cons R x xs (f x (All-head P x xs a) (All-head Q x xs b)) (all_both P Q R f xs (All-tail P x xs a) (All-tail Q x xs b))

-- equal tests count equally many
pub count_alike : {X : Type 0} (p q : X → Bool) (xs : List X) → All (λ x. p x ≡ q x) xs → count_by p xs ≡ count_by q xs
count_alike p q [] a = refl
count_alike p q (x ∷ xs) a =
    let here : tally (p x) ≡ tally (q x) = ap tally (All-head (λ y. p y ≡ q y) x xs a) in
    omega (arith, here, sum_by-cons (λ y. tally (p y)) x xs, sum_by-cons (λ y. tally (q y)) x xs, count_alike p q xs (All-tail (λ y. p y ≡ q y) x xs a))
