-- Lines of CSV, field by field.
use Rattle.std.proofs.Common.{◌≡◌, ◌∙◌, ◌==◌, ◌+◌, ◌/◌, ◌%◌, ◌≤◌, ℕ, zero, suc, Bool, true, false, List, [], ◌∷◌, ◌++◌, ap, append_assoc, append-nil, arith, decimal, map, nat_le, nat_lt, refl, sym}
use Rattle.std.specs.Prelude.{ℤ, pos, negsuc, codes, if◌then◌else◌}
use Rattle.std.specs.Fmt.{digit_glyph, digits, digits_onto, signed_decimal}
use Rattle.std.specs.List.{flat_map, list_any}
use Rattle.std.proofs.lemmas.Bool.{ne_eqb}
use Rattle.csv.specs.Writing.{field_text, fields_text, is_blank, needs_byte, row_text}
use Rattle.tq_base.specs.Contents.{Int, Text}
use Rattle.tq_base.specs.Dates.{CivilDate, date_of, date_text, digit}
use Rattle.tq_base.specs.Numbers.{instant_text}
use Rattle.tq_base.specs.declared.dates.TheConstants.{LAST_DAY}
use Rattle.tq_base.specs.declared.form.Form.{Form}
use Rattle.tq_base.specs.declared.form.Form.TheVariants.{Dates, Numbers}
use Rattle.tq_base.specs.declared.period.TheConstants.{FOREVER}
use Rattle.tq_base.specs.declared.value.Value.{Value}
use Rattle.tq_table.specs.Text.{answer_format, bound_field, value_field}
use Rattle.tq_report.specs.declared.format.Format.TheVariants.{Csv}
use Rattle.tq_report.specs.Texts.{end_in, instant_in, value_in}

-- ---- fields without quotes

-- a field that is not quoted
abbrev pub IsPlain : List ℕ → Type 0
IsPlain field = list_any (needs_byte answer_format) field ≡ false

pub plain_field : (field : List ℕ) → IsPlain field → field_text answer_format field ≡ field
plain_field field is = rw is refl

high : (b : ℕ) → 45 ≤ b → needs_byte answer_format b ≡ false
high b low =
    let e44 : (b == 44) ≡ false = ne_eqb b 44 (λ e. omega (arith, e, low)) in
    let e34 : (b == 34) ≡ false = ne_eqb b 34 (λ e. omega (arith, e, low)) in
    let e13 : (b == 13) ≡ false = ne_eqb b 13 (λ e. omega (arith, e, low)) in
    let e10 : (b == 10) ≡ false = ne_eqb b 10 (λ e. omega (arith, e, low)) in
    rw (e44, e34, e13, e10) refl

plain_more : (b : ℕ) (bs : List ℕ) → 45 ≤ b → IsPlain bs → IsPlain (b ∷ bs)
plain_more b bs low is = rw (high b low) is

glyph_high : (d : ℕ) → 45 ≤ digit_glyph false d
glyph_high d = by (nat_lt d 10)
  where
    by : (t : Bool) → 45 ≤ (if t then 48 + d else 87 + d)
    by true = omega arith
    by false = omega arith

onto_plain : (k n : ℕ) (acc : List ℕ) → IsPlain acc → IsPlain (digits_onto k 10 false n acc)
onto_plain zero n acc is = is
onto_plain (suc k) n acc is =
    let here = plain_more (digit_glyph false (n % 10)) acc (glyph_high (n % 10)) is in
    by (n / 10 == 0) here (onto_plain k (n / 10) (digit_glyph false (n % 10) ∷ acc) here)
  where
    by : (t : Bool) → IsPlain (digit_glyph false (n % 10) ∷ acc) → IsPlain (digits_onto k 10 false (n / 10) (digit_glyph false (n % 10) ∷ acc))
        → IsPlain (if t then digit_glyph false (n % 10) ∷ acc else digits_onto k 10 false (n / 10) (digit_glyph false (n % 10) ∷ acc))
    by true p q = p
    by false p q = q

pub decimal_plain : (n : ℕ) → IsPlain (decimal n)
unfolding digits
decimal_plain n = onto_plain 64 n [] refl

signed_plain : (z : ℤ) → IsPlain (signed_decimal z)
signed_plain (pos n) = decimal_plain n
signed_plain (negsuc n) = plain_more 45 (decimal (suc n)) (omega arith) (decimal_plain (suc n))

digit_more : (n : ℕ) (bs : List ℕ) → IsPlain bs → IsPlain (digit n ∷ bs)
digit_more n bs is = plain_more (digit n) bs (omega arith) is

dash_more : (bs : List ℕ) → IsPlain bs → IsPlain (45 ∷ bs)
dash_more bs is = plain_more 45 bs (omega arith) is

date_plain : (date : CivilDate) → IsPlain (date_text date)
date_plain date =
    let y = date.year in
    let m = date.month in
    let d = date.day in
    let days : List ℕ = digit (d / 10) ∷ digit d ∷ [] in
    let months : List ℕ = digit (m / 10) ∷ digit m ∷ 45 ∷ days in
    let years : List ℕ = digit (y / 10) ∷ digit y ∷ 45 ∷ months in
    digit_more (y / 1000) (digit (y / 100) ∷ years) (digit_more (y / 100) years
    (digit_more (y / 10) (digit y ∷ 45 ∷ months) (digit_more y (45 ∷ months) (dash_more months
    (digit_more (m / 10) (digit m ∷ 45 ∷ days) (digit_more m (45 ∷ days) (dash_more days
    (digit_more (d / 10) (digit d ∷ []) (digit_more d [] refl)))))))))

pub instant_plain : (form : Form) (n : ℕ) → IsPlain (instant_text form n)
instant_plain Numbers n = decimal_plain n
instant_plain Dates n = by (nat_le n LAST_DAY)
  where
    by : (t : Bool) → IsPlain (if t then date_text (date_of n) else decimal n)
    by true = date_plain (date_of n)
    by false = decimal_plain n

-- ---- fields of answers

pub value_is : (value : Value) → value_in Csv 0 value ≡ field_text answer_format (value_field value)
value_is (Int n) = sym (plain_field (signed_decimal n) (signed_plain n))
value_is (Text t) = refl

pub instant_is : (form : Form) (n : ℕ) → instant_in Csv form n ≡ field_text answer_format (instant_text form n)
instant_is form n = sym (plain_field (instant_text form n) (instant_plain form n))

pub end_is : (form : Form) (n : ℕ) → end_in Csv form false n ≡ field_text answer_format (bound_field form n)
end_is form n = by (n == FOREVER)
  where
    by : (t : Bool) → (if t then codes "forever" else instant_text form n) ≡ field_text answer_format (if t then codes "forever" else instant_text form n)
    by true = refl
    by false = instant_is form n

-- ---- lines

-- a field after a comma
abbrev pub after_comma : {X : Type 0} → (X → List ℕ) → X → List ℕ
after_comma field x = 44 ∷ field_text answer_format (field x)

pub fields_map : {X : Type 0} (f : X → List ℕ) (xs : List X) → fields_text answer_format (map f xs) ≡ flat_map (after_comma f) xs
unfolding fields_text
fields_map f [] = refl
fields_map f (x ∷ xs) = ap (λ (l : List ℕ). 44 ∷ (field_text answer_format (f x) ++ l)) (fields_map f xs)

fields_append : (xs ys : List (List ℕ)) → fields_text answer_format (xs ++ ys) ≡ fields_text answer_format xs ++ fields_text answer_format ys
unfolding fields_text
fields_append [] ys = refl
fields_append (x ∷ xs) ys =
    ap (λ (l : List ℕ). 44 ∷ (field_text answer_format x ++ l)) (fields_append xs ys)
    ∙ ap (λ (l : List ℕ). 44 ∷ l) (sym (append_assoc (field_text answer_format x) (fields_text answer_format xs) (fields_text answer_format ys)))

some_more : (x : List ℕ) (xs : List (List ℕ)) (y : List ℕ) (ys : List (List ℕ)) → is_blank answer_format (x ∷ (xs ++ y ∷ ys)) ≡ false
unfolding is_blank
some_more x [] y ys = refl
some_more x (z ∷ xs) y ys = refl

-- a line that begins with a field, and ends with two others
pub line_is : (x : List ℕ) (xs : List (List ℕ)) (y z : List ℕ)
    → row_text answer_format (x ∷ (xs ++ y ∷ z ∷ []))
    ≡ field_text answer_format x ++ fields_text answer_format xs ++ (44 ∷ field_text answer_format y) ++ (44 ∷ field_text answer_format z) ++ 10 ∷ []
unfolding fields_text
line_is x xs y z =
    let f = field_text answer_format in
    let t = fields_text answer_format xs in
    rw (some_more x xs y (z ∷ []), fields_append xs (y ∷ z ∷ [])) (sym (regroup (f x) t (f y) (f z)))
  where
    regroup : (a b c d : List ℕ) → a ++ b ++ (44 ∷ c) ++ (44 ∷ d) ++ 10 ∷ [] ≡ (a ++ (b ++ 44 ∷ (c ++ 44 ∷ (d ++ [])))) ++ ([] ++ 10 ∷ [])
    regroup a b c d = simp (append_assoc, append-nil)
