-- The elements of a list with one more at the end.
use Rattle.std.proofs.Common.{◌≡◌, ◌<◌, ◌++◌, ◌∷◌, ℕ, zero, suc, List, [], Some, ◌⊎◌, inl, inr, length, slice_get, refl, arith}

-- an element is one of those before, or the last
pub pushed_at : {A : Type 0} (xs : List A) (y : A) (t : ℕ) (x : A) → slice_get (xs ++ y ∷ []) t ≡ Some x → ((t < length xs) × (slice_get xs t ≡ Some x)) ⊎ ((t ≡ length xs) × (y ≡ x))
pushed_at [] y zero x is = inr (refl, cc is)
pushed_at [] y (suc t) x is = cc is
pushed_at (z ∷ xs) y zero x is = inl (omega arith, is)
pushed_at {A} (z ∷ xs) y (suc t) x is = by (pushed_at xs y t x is)
  where
    by : ((t < length xs) × (slice_get xs t ≡ Some x)) ⊎ ((t ≡ length xs) × (y ≡ x)) → ((suc t < suc (length xs)) × (slice_get (z ∷ xs) (suc t) ≡ Some x)) ⊎ ((suc t ≡ suc (length xs)) × (y ≡ x))
    by (inl (less, at)) = inl (omega (arith, less), at)
    by (inr (here, same)) = inr (omega (arith, here), same)
