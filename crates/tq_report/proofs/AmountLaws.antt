-- Numbers as they are written, read back by the definition of imports.
use Rattle.std.proofs.Common.{◌≡◌, ◌∙◌, ◌≤◌, ◌<◌, ◌*◌, ◌^◌, ◌+◌, ◌-◌, ◌/◌, ◌%◌, ◌==◌, ◌&&◌, ℕ, zero, suc, Bool, true, false, not, List, [], ◌∷◌, ◌++◌, decimal, drop, length, length-append, nat_le, nat_lt, Option, Some, None, add-one, ap, arith, refl, replicate, sym, take}
use Rattle.std.specs.Prelude.{ℤ, pos, negsuc, neg_ℤ, option_map}
use Rattle.std.specs.Char.{digit_value, is_ascii_digit}
use Rattle.std.specs.List.{list_all, prefix_len}
use Rattle.std.specs.Option.{option_and_then}
use Rattle.std.specs.Str.Parse.{AllDigits, digits_value, digits_value_after}
use Rattle.std.proofs.Math.Nat.{one-le-pow, pow-suc}
use Rattle.std.proofs.lemmas.Nat.{div-add-mod'}
use Rattle.std.proofs.lemmas.Bool.{and_parts, le-leb, lt-ltb, ltb-true, ne_eqb}
use Rattle.std.proofs.lemmas.Bool.Decides.{nat_tests}
use Rattle.std.proofs.lemmas.Fmt.{decimal_is_IsNumeral_wide, length-decimal-le_wide}
use Rattle.std.proofs.Math.Nat.{div-le_self, mod-lt}
use Rattle.std.proofs.Math.Seq.{drop-append-add, take-append_seam}
use Rattle.std.proofs.lemmas.List.{append-nil, drop_all, length-replicate, take_all}
use Rattle.std.proofs.lemmas.Str.Parse.{digit_from_value}
use Rattle.std.proofs.lemmas.List.Folds.{list_all-append}
use Rattle.tq_base.specs.Numbers.{natural_up_to}
use Rattle.tq_base.specs.Contents.{Int, has_exact_prefix}
use Rattle.tq_import.specs.declared.plan.NumberFormat.{NumberFormat}
use Rattle.tq_import.specs.Amounts.{fraction_part, is_negative, unit_digits, units_in, unsigned, whole_part}
use Rattle.tq_import.specs.Amounts as import
use Rattle.tq_table.specs.Amounts.{number_text, size_text, with_zeros}

-- ---- digits

-- some bytes, all of them digits, with this value
pub record AreDigits (bytes : List ℕ) (value : ℕ) : Type 0 where
  pub some : 0 < length bytes
  pub digits : list_all is_ascii_digit bytes ≡ true
  pub is : digits_value 10 bytes ≡ value

value_after : (n : ℕ) (ds : List ℕ) → digits_value_after 10 n ds ≡ n * 10 ^ length ds + digits_value 10 ds
value_after n [] = omega arith
value_after n (c ∷ cs) =
    let a = value_after (n * 10 + digit_value c) cs in
    let b = value_after (0 * 10 + digit_value c) cs in
    omega (arith, a, b, ap (λ (x : ℕ). n * x) (pow-suc 10 (length cs)))

after_append : (n : ℕ) (xs ys : List ℕ) → digits_value_after 10 n (xs ++ ys) ≡ digits_value_after 10 (digits_value_after 10 n xs) ys
after_append n [] ys = refl
after_append n (x ∷ xs) ys = after_append (n * 10 + digit_value x) xs ys

value_both : (xs ys : List ℕ) → digits_value 10 (xs ++ ys) ≡ digits_value 10 xs * 10 ^ length ys + digits_value 10 ys
value_both xs ys = after_append 0 xs ys ∙ value_after (digits_value 10 xs) ys

numeral_all : (ds : List ℕ) → AllDigits 10 ds → list_all is_ascii_digit ds ≡ true
numeral_all [] d = refl
numeral_all (c ∷ cs) d =
    let digit = digit_from_value c d.0 in
    let here : is_ascii_digit c ≡ true = grind (arith, nat_tests) in
    rw (here, numeral_all cs d.1) refl

pub decimal_digits : (n : ℕ) → n < 10 ^ 64 → AreDigits (decimal n) n
decimal_digits n small =
    let k = decimal_is_IsNumeral_wide n small in
    record { some = k.0.0; digits = numeral_all (decimal n) k.0.1; is = k.1 }

zeros_digits : (n : ℕ) → list_all is_ascii_digit (replicate n 48) ≡ true
zeros_digits zero = refl
zeros_digits (suc n) = zeros_digits n

zeros_value : (n : ℕ) → digits_value 10 (replicate n 48) ≡ 0
zeros_value zero = refl
zeros_value (suc n) = zeros_value n

and_true : (a b : Bool) → a ≡ true → b ≡ true → (a && b) ≡ true
and_true true true p q = refl
and_true true false p q = q
and_true false b p q = p

all_both : (xs ys : List ℕ) → list_all is_ascii_digit xs ≡ true → list_all is_ascii_digit ys ≡ true → list_all is_ascii_digit (xs ++ ys) ≡ true
all_both xs ys p q = list_all-append is_ascii_digit xs ys ∙ and_true (list_all is_ascii_digit xs) (list_all is_ascii_digit ys) p q

-- zeros in front change no value
with_zeros_digits : (places n : ℕ) → n < 10 ^ 64 → AreDigits (with_zeros places n) n
with_zeros_digits places n small =
    let k = decimal_digits n small in
    let zeros = replicate (places - length (decimal n)) 48 in
    record {
      some = omega (arith, k.some, length-append zeros (decimal n));
      digits = all_both zeros (decimal n) (zeros_digits (places - length (decimal n))) k.digits;
      is = value_both zeros (decimal n) ∙ rw (zeros_value (places - length (decimal n)), k.is) (omega arith);
    }

-- exactly so many digits
with_zeros_len : (places n : ℕ) → 0 < places → n < 10 ^ places → n < 10 ^ 64 → length (with_zeros places n) ≡ places
with_zeros_len places n some less small =
    let few : length (decimal n) ≤ places = length-decimal-le_wide places n some less small in
    omega (arith, length-append (replicate (places - length (decimal n)) 48) (decimal n), length-replicate {A = ℕ} (places - length (decimal n)) 48, few)

-- ---- the point

no_point : (xs : List ℕ) → list_all is_ascii_digit xs ≡ true → prefix_len (λ (x : ℕ). not (x == 46)) xs ≡ length xs
no_point [] all = refl
no_point (x ∷ xs) all =
    let parts = and_parts (is_ascii_digit x) (list_all is_ascii_digit xs) all in
    let other : (x == 46) ≡ false = grind (arith, nat_tests, parts.0) in
    let more = no_point xs parts.1 in
    rw other (omega (arith, more))

point_at : (xs ys : List ℕ) → list_all is_ascii_digit xs ≡ true → prefix_len (λ (x : ℕ). not (x == 46)) (xs ++ 46 ∷ ys) ≡ length xs
point_at [] ys all = refl
point_at (x ∷ xs) ys all =
    let parts = and_parts (is_ascii_digit x) (list_all is_ascii_digit xs) all in
    let other : (x == 46) ≡ false = grind (arith, nat_tests, parts.0) in
    let more = point_at xs ys parts.1 in
    rw other (omega (arith, more))

-- digits are no sign
not_negative : (xs ys : List ℕ) → 0 < length xs → list_all is_ascii_digit xs ≡ true → (is_negative (xs ++ ys) ≡ false) × (unsigned (xs ++ ys) ≡ xs ++ ys)
not_negative [] ys some all = absurd (omega (arith, some))
not_negative (x ∷ xs) ys some all =
    let parts = and_parts (is_ascii_digit x) (list_all is_ascii_digit xs) all in
    let other : (x == 45) ≡ false = grind (arith, nat_tests, parts.0) in
    (other, rw other refl)

-- ---- sizes

abbrev plain : NumberFormat
plain = record { point = 46; thousands = None }

-- the digits of a number without a point
whole_read : (xs : List ℕ) → 0 < length xs → list_all is_ascii_digit xs ≡ true → unit_digits plain 0 xs ≡ Some xs
unfolding import.with_zeros
whole_read xs some all =
    let at = no_point xs all in
    let whole : whole_part 46 xs ≡ xs = ap (λ (n : ℕ). take n xs) at ∙ take_all (length xs) xs (omega arith) in
    let fraction : fraction_part 46 xs ≡ [] = ap (λ (n : ℕ). drop (n + 1) xs) at ∙ drop_all (length xs + 1) xs (omega arith) in
    let a : nat_lt 0 (length xs) ≡ true = lt-ltb 0 (length xs) some in
    let b : (length xs + 1 == length xs) ≡ false = ne_eqb (length xs + 1) (length xs) (λ e. omega (arith, e)) in
    rw (whole, fraction, a, b) (ap Some (append-nil xs))

-- the digits of a number with a point and that many digits after it
parts_read : (places : ℕ) (xs ys : List ℕ) → 0 < length xs → list_all is_ascii_digit xs ≡ true → 0 < places → length ys ≡ places
    → unit_digits plain places (xs ++ 46 ∷ ys) ≡ Some (xs ++ ys)
unfolding import.with_zeros
parts_read places xs ys some all more long =
    let at = point_at xs ys all in
    let whole : whole_part 46 (xs ++ 46 ∷ ys) ≡ xs = ap (λ (n : ℕ). take n (xs ++ 46 ∷ ys)) at ∙ take-append_seam xs (46 ∷ ys) in
    let fraction : fraction_part 46 (xs ++ 46 ∷ ys) ≡ ys = ap (λ (n : ℕ). drop (n + 1) (xs ++ 46 ∷ ys)) at ∙ drop-append-add xs (46 ∷ ys) 1 in
    let a : nat_lt 0 (length xs) ≡ true = lt-ltb 0 (length xs) some in
    let b : (length xs + 1 == length (xs ++ 46 ∷ ys)) ≡ false = ne_eqb (length xs + 1) (length (xs ++ 46 ∷ ys)) (λ e. omega (arith, e, length-append xs (46 ∷ ys), long, more)) in
    let c : nat_le (length ys) places ≡ true = le-leb (length ys) places (omega (arith, long)) in
    let none : places - length ys ≡ 0 = omega (arith, long) in
    rw (whole, fraction, a, b, c, none) refl

pub natural_is : (limit value : ℕ) (bytes : List ℕ) → AreDigits bytes value → value ≤ limit → natural_up_to limit bytes ≡ Some value
natural_is limit value bytes d within =
    let some : nat_lt 0 (length bytes) ≡ true = lt-ltb 0 (length bytes) d.some in
    let less : nat_le (digits_value 10 bytes) limit ≡ true = ap (λ (m : ℕ). nat_le m limit) d.is ∙ le-leb value limit within in
    rw (some, d.digits, less) (ap Some d.is)

-- the body of a number without its sign: what is written, its digits, and that it does not look like a sign
record IsSize (places size : ℕ) (text : List ℕ) : Type 0 where
  read : (limit : ℕ) → size ≤ limit → option_and_then (natural_up_to limit) (unit_digits plain places text) ≡ Some size
  positive : is_negative text ≡ false
  same : unsigned text ≡ text

number_size : (size : ℕ) → size < 10 ^ 64 → IsSize 0 size (decimal size)
number_size size small =
    let d = decimal_digits size small in
    let sign = not_negative (decimal size) [] d.some d.digits in
    record {
      read = λ limit within. ap (option_and_then (natural_up_to limit)) (whole_read (decimal size) d.some d.digits) ∙ natural_is limit size (decimal size) d within;
      positive = ap is_negative (sym (append-nil (decimal size))) ∙ sign.0;
      same = ap unsigned (sym (append-nil (decimal size))) ∙ sign.1 ∙ append-nil (decimal size);
    }

amount_size : (places size : ℕ) → 0 < places → size < 10 ^ 64 → IsSize places size (size_text places size)
amount_size places size some small =
    let unit = 10 ^ places in
    let positive_unit : 0 < unit = omega (arith, one-le-pow places 10 (omega arith)) in
    let whole = size / unit in
    let units = size % unit in
    let parts : whole * unit + units ≡ size = div-add-mod' size unit in
    let less : units < unit = mod-lt size positive_unit in
    let small_whole : whole < 10 ^ 64 = omega (arith, div-le_self size unit, small) in
    let small_units : units < 10 ^ 64 = omega (arith, parts, small) in
    let w = decimal_digits whole small_whole in
    let u = with_zeros_digits places units small_units in
    let long : length (with_zeros places units) ≡ places = with_zeros_len places units some less small_units in
    let text = decimal whole ++ 46 ∷ with_zeros places units in
    let digits = decimal whole ++ with_zeros places units in
    let d : AreDigits digits size = record {
      some = omega (arith, w.some, length-append (decimal whole) (with_zeros places units));
      digits = all_both (decimal whole) (with_zeros places units) w.digits u.digits;
      is = value_both (decimal whole) (with_zeros places units) ∙ rw (w.is, u.is, long) parts;
    } in
    let sign = not_negative (decimal whole) (46 ∷ with_zeros places units) w.some w.digits in
    record {
      read = λ limit within. ap (option_and_then (natural_up_to limit)) (parts_read places (decimal whole) (with_zeros places units) w.some w.digits some long) ∙ natural_is limit size digits d within;
      positive = sign.0;
      same = sign.1;
    }

-- ---- numbers

signed_is : (f : ℕ → ℤ) (limit : ℕ) (o : Option (List ℕ))
    → option_and_then (λ digits. option_map f (natural_up_to limit digits)) o ≡ option_map f (option_and_then (natural_up_to limit) o)
signed_is f limit None = refl
signed_is f limit (Some digits) = refl

negative_read : (places size : ℕ) (text : List ℕ) → size ≤ 2 ^ 63 → IsSize places size text → units_in plain places (45 ∷ text) ≡ Some (neg_ℤ (pos size))
negative_read places size text within is = signed_is (λ n. neg_ℤ (pos n)) (2 ^ 63) (unit_digits plain places text) ∙ ap (option_map (λ n. neg_ℤ (pos n))) (is.read (2 ^ 63) within)

positive_read : (places size : ℕ) (text : List ℕ) → size ≤ 2 ^ 63 - 1 → IsSize places size text → units_in plain places text ≡ Some (pos size)
positive_read places size text within is =
    rw (is.positive, is.same) (signed_is pos (2 ^ 63 - 1) (unit_digits plain places text) ∙ ap (option_map pos) (is.read (2 ^ 63 - 1) within))

amount_is : (places n : ℕ) → number_text (suc places) (pos n) ≡ size_text (suc places) n
amount_is places n = let some : (suc places == 0) ≡ false = ne_eqb (suc places) 0 (λ e. omega (arith, e)) in rw some refl

debt_is : (places n : ℕ) → number_text (suc places) (negsuc n) ≡ 45 ∷ size_text (suc places) (suc n)
debt_is places n =
    let some : (suc places == 0) ≡ false = ne_eqb (suc places) 0 (λ e. omega (arith, e)) in
    rw some (ap (λ (k : ℕ). 45 ∷ size_text (suc places) k) (add-one n))

pub read_back : (places : ℕ) (number : ℤ) → has_exact_prefix (Int number) ≡ true → units_in plain places (number_text places number) ≡ Some number
read_back zero (pos n) small =
    let most : n ≤ 2 ^ 63 - 1 = omega (arith, ltb-true n (2 ^ 63) small) in
    positive_read 0 n (decimal n) most (number_size n (omega (arith, most)))
read_back zero (negsuc n) small =
    let most : suc n ≤ 2 ^ 63 = omega (arith, ltb-true n (2 ^ 63) small) in
    negative_read 0 (suc n) (decimal (suc n)) most (number_size (suc n) (omega (arith, most)))
read_back (suc places) (pos n) small =
    let most : n ≤ 2 ^ 63 - 1 = omega (arith, ltb-true n (2 ^ 63) small) in
    ap (units_in plain (suc places)) (amount_is places n)
    ∙ positive_read (suc places) n (size_text (suc places) n) most (amount_size (suc places) n (omega arith) (omega (arith, most)))
read_back (suc places) (negsuc n) small =
    let most : suc n ≤ 2 ^ 63 = omega (arith, ltb-true n (2 ^ 63) small) in
    ap (units_in plain (suc places)) (debt_is places n)
    ∙ negative_read (suc places) (suc n) (size_text (suc places) (suc n)) most (amount_size (suc places) (suc n) (omega arith) (omega (arith, most)))
