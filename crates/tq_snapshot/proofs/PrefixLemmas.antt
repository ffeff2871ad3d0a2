-- Prefixes of one list.
use Rattle.std.proofs.Common.{◌≡◌, ℕ, ◌<◌, ◌≤◌, Bool, true, false, List, [], ◌∷◌, ◌++◌, length, take, drop, refl, sym, ap, ◌∙◌, arith, append_assoc, length-append, nat_le}
use Rattle.std.specs.Prelude.{MatchBool}
use Rattle.std.proofs.lemmas.Bool.Decides.{nat_tests}
use Rattle.std.proofs.lemmas.List.{length-take-le, take-append-drop}
use mathlib.Core.List.{IsPrefix}

pub prefix_self : {A : Type 0} (xs : List A) → IsPrefix xs xs
prefix_self [] = ([], refl)
prefix_self (x ∷ xs) = ([], ap (λ ys. x ∷ ys) (nothing xs))
  where
    nothing : {A : Type 0} (xs : List A) → xs ++ [] ≡ xs
    nothing [] = refl
    nothing (x ∷ xs) = ap (λ ys. x ∷ ys) (nothing xs)

-- a prefix of a prefix is a prefix of the whole
pub prefix_trans : {A : Type 0} (xs ys zs : List A) → IsPrefix xs ys → IsPrefix ys zs → IsPrefix xs zs
prefix_trans xs ys zs one two = (one.0 ++ two.0, sym (append_assoc xs one.0 two.0) ∙ ap (λ w. w ++ two.0) one.1 ∙ two.1)

-- the first elements of a list are a prefix
pub take_begins : {A : Type 0} (n : ℕ) (xs : List A) → IsPrefix (take n xs) xs
take_begins n xs = (drop n xs, take-append-drop n xs)

-- of two prefixes of one list, the one that is no longer is a prefix of the other
pub shorter_begins : {A : Type 0} (xs ys all : List A) → IsPrefix xs all → IsPrefix ys all → length xs ≤ length ys → IsPrefix xs ys
shorter_begins [] ys all one two le = (ys, refl)
shorter_begins (x ∷ xs) [] all one two le = absurd (omega arith)
shorter_begins (x ∷ xs) (y ∷ ys) [] one two le = absurd (cc (one.1))
shorter_begins (x ∷ xs) (y ∷ ys) (a ∷ all) one two le =
    let same : x ≡ y = cc (one.1, two.1) in
    let rest = shorter_begins xs ys all (one.0, cc (one.1)) (two.0, cc (two.1)) (omega arith) in
    (rest.0, cc (same, rest.1))

-- a prefix that is no shorter than the whole is the whole
pub whole_begins : {A : Type 0} (xs ys : List A) → IsPrefix xs ys → length ys ≤ length xs → xs ≡ ys
whole_begins [] [] one le = refl
whole_begins [] (y ∷ ys) one le = absurd (omega arith)
whole_begins (x ∷ xs) [] one le = absurd (cc (one.1))
whole_begins (x ∷ xs) (y ∷ ys) one le = let rest = whole_begins xs ys (one.0, cc (one.1)) (omega arith) in cc (one.1, rest)

pub begins_within : {A : Type 0} (xs ys : List A) → IsPrefix xs ys → length xs ≤ length ys
begins_within xs ys one = omega (arith, sym (ap length one.1) ∙ length-append xs one.0)

-- which of two prefixes of one list is a prefix of the other
pub compared : {A : Type 0} (xs ys all : List A) (n m : ℕ) → n ≤ length xs → m ≤ length ys → IsPrefix xs all → IsPrefix ys all
    → MatchBool (nat_le n m) (IsPrefix (take n xs) (take m ys)) (IsPrefix (take m ys) (take n xs) × (length (take m ys) < length (take n xs)))
compared xs ys all n m low high one two = by (nat_le n m) refl
  where
    left : length (take n xs) ≡ n
    left = length-take-le n xs low

    right : length (take m ys) ≡ m
    right = length-take-le m ys high

    first : IsPrefix (take n xs) all
    first = prefix_trans (take n xs) xs all (take_begins n xs) one

    second : IsPrefix (take m ys) all
    second = prefix_trans (take m ys) ys all (take_begins m ys) two

    no_longer : nat_le n m ≡ true → n ≤ m
    no_longer is = grind (arith, nat_tests)

    longer : nat_le n m ≡ false → m < n
    longer is = grind (arith, nat_tests)

    by : (b : Bool) → nat_le n m ≡ b → MatchBool b (IsPrefix (take n xs) (take m ys)) (IsPrefix (take m ys) (take n xs) × (length (take m ys) < length (take n xs)))
    by true is = let le = no_longer is in shorter_begins (take n xs) (take m ys) all first second (omega (arith, left, right, le))
    by false is = let less = longer is in (shorter_begins (take m ys) (take n xs) all second first (omega (arith, left, right, less)), omega (arith, left, right, less))
