-- Numbers that are read digit by digit.
use Rattle.std.proofs.Common.{◌≡◌, ◌∙◌, ◌<◌, ◌≤◌, ◌*◌, ◌+◌, ◌-◌, ◌==◌, ◌&&◌, ◌||◌, ℕ, zero, suc, Bool, true, false, not, List, [], ◌∷◌, ◌++◌, filter, length, Option, Some, None, option_map, ap, append_assoc, append-nil, arith, le-leb, ltb-true, nat_le, nat_lt, refl, sym}
use Rattle.std.specs.Prelude.{ℤ, if◌then◌else◌}
use Rattle.std.specs.Char.{digit_value, is_ascii_digit}
use Rattle.std.specs.List.{list_all, list_any}
use Rattle.std.specs.Option.{option_and_then}
use Rattle.std.specs.Str.Parse.{digits_value_after}
use Rattle.std.proofs.lemmas.Bool.{leb-false}
use Rattle.std.proofs.lemmas.Bool.Decides.{nat_tests}
use Rattle.tq_base.specs.Numbers.{natural_up_to}
use Rattle.tq_base.proofs.NumberLemmas.{digit_is, exceeds, too_large}
use Rattle.tq_import.specs.declared.plan.NumberFormat.{NumberFormat}
use Rattle.tq_import.specs.Amounts.{fraction_part, has_parts, is_marked, unit_digits, whole_digits, whole_part, with_zeros}
use Rattle.tq_import.specs.Digits.{natural_after}
use Rattle.tq_import.proofs.AmountLemmas.{zeros_more}

-- ---- one digit

pub not_digit : (limit n b : ℕ) → is_ascii_digit b ≡ false → None ≡ natural_after limit n (b ∷ [])
not_digit limit n b e = rw e refl

pub too_many : (limit n b : ℕ) → 48 ≤ b → b ≤ 57 → limit < n * 10 + (b - 48) → None ≡ natural_after limit n (b ∷ [])
too_many limit n b low high above = sym (exceeds limit n (b ∷ []) 0 (omega arith) low high above)

pub one_digit : (limit n b m : ℕ) → 48 ≤ b → b ≤ 57 → m ≡ n * 10 + (b - 48) → m ≤ limit → Some m ≡ natural_after limit n (b ∷ [])
one_digit limit n b m low high is fits =
    let value : n * 10 + digit_value b ≡ m = omega (arith, digit_is b low high, is) in
    let digit : is_ascii_digit b ≡ true = grind (arith, nat_tests) in
    let within : nat_le (n * 10 + digit_value b) limit ≡ true = le-leb (n * 10 + digit_value b) limit (omega (arith, value, fits)) in
    rw (digit, within) (ap Some (sym value))

pub no_digits : (limit n : ℕ) → n ≤ limit → natural_after limit n [] ≡ Some n
no_digits limit n fits = rw (le-leb n limit fits) refl

-- ---- digits after digits

pub digits_more : (limit n : ℕ) (xs ys : List ℕ) → natural_after limit n (xs ++ ys) ≡ option_and_then (λ m. natural_after limit m ys) (natural_after limit n xs)
digits_more limit n [] ys = by (nat_le n limit) refl
  where
    by : (b : Bool) → nat_le n limit ≡ b → natural_after limit n ys ≡ option_and_then (λ m. natural_after limit m ys) (if true && b then Some n else None)
    by true e = refl
    by false e = too_large limit n ys (leb-false n limit e)
digits_more limit n (x ∷ xs) ys = by (is_ascii_digit x) (digits_more limit (n * 10 + digit_value x) xs ys)
  where
    by : (d : Bool)
        → natural_after limit (n * 10 + digit_value x) (xs ++ ys) ≡ option_and_then (λ m. natural_after limit m ys) (natural_after limit (n * 10 + digit_value x) xs)
        → (if (d && list_all is_ascii_digit (xs ++ ys)) && nat_le (digits_value_after 10 (n * 10 + digit_value x) (xs ++ ys)) limit
        then Some (digits_value_after 10 (n * 10 + digit_value x) (xs ++ ys)) else None)
        ≡ option_and_then (λ m. natural_after limit m ys)
        (if (d && list_all is_ascii_digit xs) && nat_le (digits_value_after 10 (n * 10 + digit_value x) xs) limit
        then Some (digits_value_after 10 (n * 10 + digit_value x) xs) else None)
    by true h = h
    by false h = refl

pub more_some : (limit n next : ℕ) (xs ys : List ℕ) → Some next ≡ natural_after limit n xs → natural_after limit n (xs ++ ys) ≡ natural_after limit next ys
more_some limit n next xs ys e = digits_more limit n xs ys ∙ ap (option_and_then (λ m. natural_after limit m ys)) (sym e)

pub more_none : (limit n : ℕ) (xs ys : List ℕ) → None ≡ natural_after limit n xs → natural_after limit n (xs ++ ys) ≡ None
more_none limit n xs ys e = digits_more limit n xs ys ∙ ap (option_and_then (λ m. natural_after limit m ys)) (sym e)

pub unmarked_more : (mark x : ℕ) (xs : List ℕ) → filter (λ b. not (b == mark)) (x ∷ xs) ≡ filter (λ b. not (b == mark)) (x ∷ []) ++ filter (λ b. not (b == mark)) xs
unmarked_more mark x xs = by (x == mark)
  where
    by : (t : Bool) → (if not t then x ∷ filter (λ b. not (b == mark)) xs else filter (λ b. not (b == mark)) xs)
        ≡ (if not t then x ∷ [] else []) ++ filter (λ b. not (b == mark)) xs
    by true = refl
    by false = refl

-- ---- zeros

-- the zeros come after the digits
pub zeros_behind : (n : ℕ) (digits : List ℕ) → with_zeros n digits ≡ digits ++ with_zeros n []
unfolding with_zeros
zeros_behind zero digits = sym (append-nil digits)
zeros_behind (suc n) digits =
    zeros_behind n (digits ++ 48 ∷ []) ∙ append_assoc digits (48 ∷ []) (with_zeros n [])
    ∙ ap (λ (l : List ℕ). digits ++ l) (sym (zeros_behind n (48 ∷ [])))

pub zero_first : (n : ℕ) → 0 < n → with_zeros n [] ≡ (48 ∷ []) ++ with_zeros (n - 1) []
zero_first n some = zeros_more n [] some ∙ zeros_behind (n - 1) (48 ∷ [])

-- ---- the number of units

up_to : (limit : ℕ) (bytes : List ℕ) → 0 < length bytes → natural_up_to limit bytes ≡ natural_after limit 0 bytes
up_to limit bytes some =
    let yes : nat_lt 0 (length bytes) ≡ true = grind (arith, nat_tests) in
    rw yes refl

chained : (f g : ℕ → Option ℕ) (o : Option ℕ) → option_and_then g (option_and_then f o) ≡ option_and_then (λ n. option_and_then g (f n)) o
chained f g None = refl
chained f g (Some n) = refl

longer : (a b : List ℕ) → 0 < length a → 0 < length (a ++ b)
longer [] b some = absurd (omega arith)
longer (x ∷ a) b some = omega arith

size_of : (limit count : ℕ) (whole fraction : List ℕ) → 0 < length whole
    → natural_up_to limit (with_zeros count (whole ++ fraction))
    ≡ option_and_then (λ n. option_and_then (λ m. natural_after limit m (with_zeros count [])) (natural_after limit n fraction)) (natural_after limit 0 whole)
size_of limit count whole fraction some =
    ap (natural_up_to limit) (zeros_behind count (whole ++ fraction))
    ∙ up_to limit ((whole ++ fraction) ++ with_zeros count []) (longer (whole ++ fraction) (with_zeros count []) (longer whole fraction some))
    ∙ digits_more limit 0 (whole ++ fraction) (with_zeros count [])
    ∙ ap (option_and_then (λ m. natural_after limit m (with_zeros count []))) (digits_more limit 0 whole fraction)
    ∙ chained (λ n. natural_after limit n fraction) (λ m. natural_after limit m (with_zeros count [])) (natural_after limit 0 whole)

-- the digits of the whole part, then those of the fraction, then zeros
pub size_is : (limit count : ℕ) (o : Option (List ℕ)) (fraction : List ℕ) → ((w : List ℕ) → o ≡ Some w → 0 < length w)
    → option_and_then (natural_up_to limit) (option_map (λ w. with_zeros count (w ++ fraction)) o)
    ≡ option_and_then (λ n. option_and_then (λ m. natural_after limit m (with_zeros count [])) (natural_after limit n fraction)) (option_and_then (natural_after limit 0) o)
size_is limit count None fraction some = refl
size_is limit count (Some w) fraction some = size_of limit count w fraction (some w refl)

some_marked : (mark b : ℕ) (bs w : List ℕ) → whole_digits (Some mark) (b ∷ bs) ≡ Some w → 0 < length w
some_marked mark b bs w e = by (b == mark) (list_any (λ c. c == mark) bs) (is_marked mark (b ∷ bs)) e
  where
    by : (t any marked : Bool)
        → (if not (t || any) || (not t && marked) then Some (if not t then b ∷ filter (λ c. not (c == mark)) bs else filter (λ c. not (c == mark)) bs) else None) ≡ Some w
        → 0 < length w
    by true any marked f = cc f
    by false true false f = cc f
    by false true true f = let same : b ∷ filter (λ c. not (c == mark)) bs ≡ w = cc f in omega (arith, ap length same)
    by false false marked f = let same : b ∷ filter (λ c. not (c == mark)) bs ≡ w = cc f in omega (arith, ap length same)

-- something before the point has digits
pub some_digits : (thousands : Option ℕ) (whole w : List ℕ) → 0 < length whole → whole_digits thousands whole ≡ Some w → 0 < length w
some_digits None whole w some e = let same : whole ≡ w = cc e in omega (arith, ap length same)
some_digits (Some mark) [] w some e = absurd (omega arith)
some_digits (Some mark) (b ∷ bs) w some e = some_marked mark b bs w e

-- the digits after the point, and then zeros, behind a number
abbrev pub with_rest : ℕ → ℕ → List ℕ → ℕ → Option ℕ
with_rest limit count fraction n = option_and_then (λ m. natural_after limit m (with_zeros count [])) (natural_after limit n fraction)

first : (a b c : Bool) → (a && b && c) ≡ true → a ≡ true
first true b c e = refl
first false b c e = cc e

-- the number of units, from the parts of a number
pub size_from : (limit : ℕ) (format : NumberFormat) (places : ℕ) (number whole fraction : List ℕ) → whole ≡ whole_part format.point number → fraction ≡ fraction_part format.point number
    → has_parts format.point places number ≡ true
    → option_and_then (natural_up_to limit) (unit_digits format places number)
    ≡ option_and_then (with_rest limit (places - length fraction) fraction) (option_and_then (natural_after limit 0) (whole_digits format.thousands whole))
size_from limit format places number whole fraction whole_is fraction_is parts =
    let w = whole_part format.point number in
    let f = fraction_part format.point number in
    let some : 0 < length w = ltb-true 0 (length w) (first (nat_lt 0 (length w)) (not (length w + 1 == length number)) (nat_le (length f) places) parts) in
    rw parts (size_is limit (places - length f) (whole_digits format.thousands w) f (λ v e. some_digits format.thousands w v some e))
    ∙ (λ i. option_and_then (with_rest limit (places - length (sym fraction_is i)) (sym fraction_is i)) (option_and_then (natural_after limit 0) (whole_digits format.thousands (sym whole_is i))))

-- the sign goes to the number
pub signed_is : (f : ℕ → ℤ) (limit : ℕ) (o : Option (List ℕ))
    → option_and_then (λ digits. option_map f (natural_up_to limit digits)) o ≡ option_map f (option_and_then (natural_up_to limit) o)
signed_is f limit None = refl
signed_is f limit (Some digits) = refl
