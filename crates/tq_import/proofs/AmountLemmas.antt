-- Units of numbers.
use Rattle.std.proofs.Common.{◌≡◌, ◌∙◌, ◌≤◌, ◌<◌, ◌*◌, ◌^◌, ◌+◌, ◌-◌, ℕ, zero, suc, Bool, true, false, List, [], ◌∷◌, ◌++◌, length, Option, Some, None, ap, arith, refl, sym, FitsSigned, w64, subst}
use Rattle.std.specs.Prelude.{ℤ, pos, neg_ℤ, ◌&&◌, ◌==◌, not, nat_le, nat_lt, option_map, if◌then◌else◌}
use Rattle.std.specs.Option.{option_and_then}
use Rattle.std.specs.Str.Parse.{digits_value}
use Rattle.std.proofs.Math.Nat.{pow-suc}
use Rattle.std.proofs.lemmas.Nat.{pow-add}
use Rattle.std.proofs.lemmas.Bool.{leb-true}
use Rattle.std.proofs.lemmas.Int.Digits.{digits_value_push}
use Rattle.tq_base.specs.Numbers.{is_numeral, natural_up_to}
use Rattle.tq_import.specs.declared.plan.NumberFormat.{NumberFormat}
use Rattle.tq_import.specs.Amounts.{fraction_part, has_parts, is_negative, signed_units, unit_digits, units_in, unsigned, whole_digits, whole_part, with_zeros}
use Rattle.tq_import.specs.Laws.{AreUnitsOf}

pub zeros_more : (n : ℕ) (digits : List ℕ) → 0 < n → with_zeros n digits ≡ with_zeros (n - 1) (digits ++ 48 ∷ [])
unfolding with_zeros
zeros_more zero digits some = absurd (omega arith)
zeros_more (suc n) digits some =
    let same : n ≡ suc n - 1 = omega arith in
    ap (λ (k : ℕ). with_zeros k (digits ++ 48 ∷ [])) same

pub no_zeros : (n : ℕ) (digits : List ℕ) → n ≤ 0 → with_zeros n digits ≡ digits
unfolding with_zeros
no_zeros zero digits none = refl
no_zeros (suc n) digits none = absurd (omega arith)

-- each zero behind the digits multiplies their value by ten
pub zeros_value : (n : ℕ) (digits : List ℕ) → digits_value 10 (with_zeros n digits) ≡ digits_value 10 digits * 10 ^ n
unfolding with_zeros
zeros_value zero digits = omega arith
zeros_value (suc n) digits =
    let more = digits_value_push 10 digits 48 in
    let power = pow-suc 10 n in
    let rest = zeros_value n (digits ++ 48 ∷ []) in
    rest ∙ rw (more, power) (omega arith)

-- a number within a limit is the value of its digits
natural_value : (limit : ℕ) (bytes : List ℕ) (n : ℕ) → natural_up_to limit bytes ≡ Some n → n ≡ digits_value 10 bytes
natural_value limit bytes n e = by (is_numeral bytes && nat_le (digits_value 10 bytes) limit) e
  where
    by : (b : Bool) → (if b then Some (digits_value 10 bytes) else None) ≡ Some n → n ≡ digits_value 10 bytes
    by true f = cc
    by false f = cc

mapped : (f : ℕ → ℤ) (o : Option ℕ) (units : ℤ) → option_map f o ≡ Some units → (n : ℕ) × (o ≡ Some n) × (units ≡ f n)
mapped f None units e = cc e
mapped f (Some n) units e = (n, refl, sym (cc e))

-- the magnitude of units is the value of their digits
signed_value : (negative : Bool) (digits : List ℕ) (units : ℤ) → signed_units negative digits ≡ Some units
    → (n : ℕ) × (units ≡ (if negative then neg_ℤ (pos n) else pos n)) × (n ≡ digits_value 10 digits)
signed_value true digits units e =
    let (n, is, same) = mapped (λ n. neg_ℤ (pos n)) (natural_up_to (2 ^ 63) digits) units e in
    (n, same, natural_value (2 ^ 63) digits n is)
signed_value false digits units e =
    let (n, is, same) = mapped pos (natural_up_to (2 ^ 63 - 1) digits) units e in
    (n, same, natural_value (2 ^ 63 - 1) digits n is)

-- ---- units have 64 signed bits

natural_below : (limit : ℕ) (bytes : List ℕ) (n : ℕ) → natural_up_to limit bytes ≡ Some n → n ≤ limit
natural_below limit bytes n e = by (is_numeral bytes) (nat_le (digits_value 10 bytes) limit) refl e
  where
    by : (t u : Bool) → nat_le (digits_value 10 bytes) limit ≡ u → (if t && u then Some (digits_value 10 bytes) else None) ≡ Some n → n ≤ limit
    by false u is f = cc f
    by true false is f = cc f
    by true true is f =
        let same : digits_value 10 bytes ≡ n = cc f in
        let le : digits_value 10 bytes ≤ limit = leb-true (digits_value 10 bytes) limit is in
        omega (arith, same, le)

fits_up : (n : ℕ) → n ≤ 2 ^ 63 - 1 → FitsSigned w64 (pos n)
fits_up n le = record { sfits = omega (arith, le) }

fits_down : (n : ℕ) → n ≤ 2 ^ 63 → FitsSigned w64 (neg_ℤ (pos n))
fits_down zero le = record { sfits = omega arith }
fits_down (suc n) le = record { sfits = omega (arith, le) }

signed_fits : (negative : Bool) (digits : List ℕ) (units : ℤ) → signed_units negative digits ≡ Some units → FitsSigned w64 units
signed_fits true digits units e =
    let (n, is, same) = mapped (λ n. neg_ℤ (pos n)) (natural_up_to (2 ^ 63) digits) units e in
    subst (FitsSigned w64) (sym same) (fits_down n (natural_below (2 ^ 63) digits n is))
signed_fits false digits units e =
    let (n, is, same) = mapped pos (natural_up_to (2 ^ 63 - 1) digits) units e in
    subst (FitsSigned w64) (sym same) (fits_up n (natural_below (2 ^ 63 - 1) digits n is))

pub units_fit : (format : NumberFormat) (places : ℕ) (bytes : List ℕ) (units : ℤ) → units_in format places bytes ≡ Some units → FitsSigned w64 units
units_fit format places bytes units e = by (unit_digits format places (unsigned bytes)) e
  where
    by : (o : Option (List ℕ)) → option_and_then (signed_units (is_negative bytes)) o ≡ Some units → FitsSigned w64 units
    by None f = cc f
    by (Some digits) f = signed_fits (is_negative bytes) digits units f

third : (a b c : Bool) → (a && b && c) ≡ true → c ≡ true
third true true c e = e
third true false c e = cc e
third false b c e = cc e

-- zeros up to `places` digits after the point make the amount's units
exact : (n value places few : ℕ) → few ≤ places → n ≡ value * 10 ^ (places - few) → n * 10 ^ few ≡ value * 10 ^ places
exact n value places few less is =
    let all : places - few + few ≡ places = omega arith in
    let power : 10 ^ places ≡ 10 ^ (places - few) * 10 ^ few = ap (λ k. 10 ^ k) (sym all) ∙ pow-add 10 (places - few) few in
    rw (is, power) (omega arith)

module _ (format : NumberFormat) (places : ℕ) (bytes : List ℕ) (units : ℤ) (e : units_in format places bytes ≡ Some units) where
  abbrev number : List ℕ
  number = unsigned bytes

  abbrev fraction : List ℕ
  fraction = fraction_part format.point number

  by : (b : Bool) (o : Option (List ℕ)) → has_parts format.point places number ≡ b → whole_digits format.thousands (whole_part format.point number) ≡ o
      → (n : ℕ) × (units ≡ (if is_negative bytes then neg_ℤ (pos n) else pos n)) × AreUnitsOf format places bytes n
  by false o parts_are whole_is = let none = rw parts_are at e in cc none
  by true None parts_are whole_is = let none = rw (parts_are, whole_is) at e in cc none
  by true (Some whole) parts_are whole_is =
      let signed = rw (parts_are, whole_is) at e in
      let (n, sign, value) = signed_value (is_negative bytes) (with_zeros (places - length fraction) (whole ++ fraction)) units signed in
      let few : length fraction ≤ places = leb-true (length fraction) places (third (nat_lt 0 (length (whole_part format.point number))) (not (length (whole_part format.point number) + 1 == length number)) (nat_le (length fraction) places) parts_are) in (
        n,
        sign,
        record {
          whole = whole;
          digits = whole_is;
          few = few;
          same = exact n (digits_value 10 (whole ++ fraction)) places (length fraction) few (value ∙ zeros_value (places - length fraction) (whole ++ fraction));
        },
      )

  pub units_exact : (n : ℕ) × (units ≡ (if is_negative bytes then neg_ℤ (pos n) else pos n)) × AreUnitsOf format places bytes n
  units_exact = by (has_parts format.point places number) (whole_digits format.thousands (whole_part format.point number)) refl refl
