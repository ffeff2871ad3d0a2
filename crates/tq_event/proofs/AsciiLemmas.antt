-- Checking bytes for ASCII one after another.
use Rattle.std.proofs.Common.{◌≡◌, ◌+◌, ◌<◌, ◌≤◌, ◌&&◌, ℕ, Bool, true, false, List, get_or, length, nat_lt, refl, subst, arith}
use Rattle.std.proofs.lemmas.List.{get_or_past}
use Rattle.std.proofs.lemmas.Bool.Decides.{nat_tests}

-- the bytes below a place, and the one there
pub ascii_more : (ascii : Bool) (bytes : List ℕ) (place : ℕ) → (ascii ≡ true → (i : ℕ) → i < place → get_or bytes i 0 < 128)
    → (ascii && nat_lt (get_or bytes place 0) 128) ≡ true → (i : ℕ) → i < place + 1 → get_or bytes i 0 < 128
ascii_more false bytes place before both i lt = cc
ascii_more true bytes place before both i lt = by (nat_lt i place) refl
  where
    here : get_or bytes place 0 < 128
    here = grind (arith, nat_tests)

    by : (b : Bool) → nat_lt i place ≡ b → get_or bytes i 0 < 128
    by true e = before refl i (grind (arith, nat_tests))
    by false e = subst (λ k. get_or bytes k 0 < 128) (let same : place ≡ i = grind (arith, nat_tests) in same) here

-- all of them; past the end there are zeros
pub ascii_all : (bytes : List ℕ) (place : ℕ) → length bytes ≤ place → ((i : ℕ) → i < place → get_or bytes i 0 < 128) → (i : ℕ) → get_or bytes i 0 < 128
ascii_all bytes place past before i = by (nat_lt i place) refl
  where
    by : (b : Bool) → nat_lt i place ≡ b → get_or bytes i 0 < 128
    by true e = before i (grind (arith, nat_tests))
    by false e = let zero : get_or bytes i 0 ≡ 0 = get_or_past bytes i 0 (grind (arith, nat_tests)) in omega (arith, zero)
