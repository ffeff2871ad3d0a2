-- Digits read one at a time.
use Rattle.std.proofs.Common.{◌≡◌, ℕ, ◌+◌, ◌-◌, ◌*◌, ◌<◌, ◌≤◌, ◌∙◌, Bool, get_or, drop, true, false, ◌&&◌, cond, List, [], ◌∷◌, length, nat_le, Option, Some, None, refl, arith}
use Rattle.std.specs.Char.{is_ascii_digit, digit_value}
use Rattle.std.specs.List.{list_all}
use Rattle.std.specs.Str.Parse.{digits_value_after}
use Rattle.std.proofs.lemmas.Bool.Decides.{nat_tests}
use Rattle.std.proofs.lemmas.List.{at_drop_more}

-- the number that the digits write after those of n, if the whole is at most the limit
abbrev pub natural_after : ℕ → ℕ → List ℕ → Option ℕ
natural_after limit n bytes =
    cond (list_all is_ascii_digit bytes && nat_le (digits_value_after 10 n bytes) limit) (Some (digits_value_after 10 n bytes)) None

-- further digits do not make a number smaller
pub digits_value_after-le : (n : ℕ) (bytes : List ℕ) → n ≤ digits_value_after 10 n bytes
digits_value_after-le n [] = omega arith
digits_value_after-le n (b ∷ bs) = omega (arith, digits_value_after-le (n * 10 + digit_value b) bs)

abbrev when : Bool → Bool → ℕ → Option ℕ
when a b n = cond (a && b) (Some n) None

pub too_large : (limit n : ℕ) (bytes : List ℕ) → limit < n → natural_after limit n bytes ≡ None
too_large limit n bytes above = by (list_all is_ascii_digit bytes) (nat_le (digits_value_after 10 n bytes) limit) refl
  where
    by : (a b : Bool) → nat_le (digits_value_after 10 n bytes) limit ≡ b → when a b (digits_value_after 10 n bytes) ≡ None
    by false b e = refl
    by true false e = refl
    by true true e = let le = digits_value_after-le n bytes in grind (arith, nat_tests)

-- the value of a digit
pub digit_is : (b : ℕ) → 48 ≤ b → b ≤ 57 → digit_value b ≡ b - 48
digit_is b low high = grind (arith, nat_tests)

-- one more digit makes the number too large
pub exceeds : (limit n : ℕ) (bytes : List ℕ) (i : ℕ) → i < length bytes → 48 ≤ get_or bytes i 0 → get_or bytes i 0 ≤ 57
    → limit < n * 10 + (get_or bytes i 0 - 48) → natural_after limit n (drop i bytes) ≡ None
exceeds limit n bytes i here low high above =
    let b = get_or bytes i 0 in
    let rest = drop (i + 1) bytes in
    at_drop_more (natural_after limit n) bytes i 0 here ∙ by (is_ascii_digit b) (too_large limit (n * 10 + digit_value b) rest (omega (arith, digit_is b low high)))
  where
    by : (d : Bool) → natural_after limit (n * 10 + digit_value (get_or bytes i 0)) (drop (i + 1) bytes) ≡ None
        → cond ((d && list_all is_ascii_digit (drop (i + 1) bytes)) && nat_le (digits_value_after 10 (n * 10 + digit_value (get_or bytes i 0)) (drop (i + 1) bytes)) limit) (Some (digits_value_after 10 (n * 10 + digit_value (get_or bytes i 0)) (drop (i + 1) bytes))) None ≡ None
    by true e = e
    by false e = refl
