-- The text of a date, and the date of a text.
use Rattle.std.proofs.Common.{◌≡◌, ℕ, ◌+◌, ◌*◌, ◌/◌, ◌%◌, ◌<◌, ◌≤◌, ◌∙◌, Bool, true, false, cond, ◌&&◌, nat_le, List, [], ◌∷◌, decimal, Option, Some, None, refl, sym, ap, arith, pos, codes, inl, inr}
use Rattle.std.specs.Char.{is_ascii_digit, digit_value}
use Rattle.std.specs.Str.{str_eq_ignore_ascii_case}
use Rattle.std.proofs.lemmas.Bool.Decides.{nat_tests}
use Rattle.jiff_core.proofs.CalendarLemmas.{days_in_month_bounds}
use Rattle.tq_base.specs.Dates.{CivilDate, date_in, date_of, date_text, day_of, days_before, digit, is_date, is_date_text}
use Rattle.tq_base.specs.Numbers.{DatesRoundTrip, IsDated, bound_of, instant_of, instant_text}
use Rattle.tq_base.specs.declared.period.TheConstants.{FOREVER}
use Rattle.tq_base.specs.declared.form.Form.TheVariants.{Dates}
use Rattle.tq_base.proofs.NumberLemmas.{digit_is}
use Rattle.tq_base.proofs.DateLemmas.{InCalendar, IsSpelled, date_of_day, date_of_is, day_of_date, day_of_some, is_date_is, spelled_if, spelled_is, year_within}

is_digit : (d : ℕ) → d < 10 → is_ascii_digit (48 + d) ≡ true
is_digit d small = grind (arith, nat_tests)

value_is : (d : ℕ) → d < 10 → digit_value (48 + d) ≡ d
value_is d small = omega (arith, digit_is (48 + d) (omega arith) (omega arith))

-- four digits of a number below 10,000 make the number, and so do two of one below 100
four_make : (n : ℕ) → n ≤ 9999 → (((0 * 10 + n / 1000 % 10) * 10 + n / 100 % 10) * 10 + n / 10 % 10) * 10 + n % 10 ≡ n
four_make n most = omega arith

two_make : (n : ℕ) → n ≤ 99 → (0 * 10 + n / 10 % 10) * 10 + n % 10 ≡ n
two_make n most = omega arith

all_two : (a b : ℕ) → is_ascii_digit a ≡ true → is_ascii_digit b ≡ true → (is_ascii_digit a && (is_ascii_digit b && true)) ≡ true
all_two a b ea eb = rw (ea, eb)

all_four : (a b c d : ℕ) → is_ascii_digit a ≡ true → is_ascii_digit b ≡ true → is_ascii_digit c ≡ true → is_ascii_digit d ≡ true
    → (is_ascii_digit a && (is_ascii_digit b && (is_ascii_digit c && (is_ascii_digit d && true)))) ≡ true
all_four a b c d ea eb ec ed = rw (ea, eb, ec, ed)

-- the text of a date of the calendar has the form of a date
pub text_spelled : (date : CivilDate) → IsSpelled (date_text date)
text_spelled date = record {
  ten = refl;
  year = all_four (digit (date.year / 1000)) (digit (date.year / 100)) (digit (date.year / 10)) (digit date.year) (is_digit (date.year / 1000 % 10) (omega arith)) (is_digit (date.year / 100 % 10) (omega arith)) (is_digit (date.year / 10 % 10) (omega arith)) (is_digit (date.year % 10) (omega arith));
  dash = refl;
  month = all_two (digit (date.month / 10)) (digit date.month) (is_digit (date.month / 10 % 10) (omega arith)) (is_digit (date.month % 10) (omega arith));
  second_dash = refl;
  day = all_two (digit (date.day / 10)) (digit date.day) (is_digit (date.day / 10 % 10) (omega arith)) (is_digit (date.day % 10) (omega arith));
}

pub date_in_text : (date : CivilDate) → InCalendar date → date.year ≤ 9999 → date_in (date_text date) ≡ date
date_in_text date h four =
    let bounds = days_in_month_bounds (pos date.year) date.month in
    let year = four_value date.year ∙ four_make date.year four in
    let month = two_value date.month ∙ two_make date.month (omega arith) in
    let day = two_value date.day ∙ two_make date.day (omega arith) in
    λ i. record { year = year i; month = month i; day = day i }
  where
    four_value : (n : ℕ) → (((0 * 10 + digit_value (digit (n / 1000))) * 10 + digit_value (digit (n / 100))) * 10 + digit_value (digit (n / 10))) * 10 + digit_value (digit n)
        ≡ (((0 * 10 + n / 1000 % 10) * 10 + n / 100 % 10) * 10 + n / 10 % 10) * 10 + n % 10
    four_value n = rw (value_is (n / 1000 % 10) (omega arith), value_is (n / 100 % 10) (omega arith), value_is (n / 10 % 10) (omega arith), value_is (n % 10) (omega arith))

    two_value : (n : ℕ) → (0 * 10 + digit_value (digit (n / 10))) * 10 + digit_value (digit n) ≡ (0 * 10 + n / 10 % 10) * 10 + n % 10
    two_value n = rw (value_is (n / 10 % 10) (omega arith), value_is (n % 10) (omega arith))

-- a digit is determined by its value
pub digit_bounds : (b : ℕ) → is_ascii_digit b ≡ true → (48 ≤ b) × (b ≤ 57)
digit_bounds b e = grind (arith, nat_tests)

of_all_two : (x y : Bool) → (x && (y && true)) ≡ true → (x ≡ true) × (y ≡ true)
of_all_two x y e = grind arith

of_all_four : (x y z w : Bool) → (x && (y && (z && (w && true)))) ≡ true → (x ≡ true) × (y ≡ true) × (z ≡ true) × (w ≡ true)
of_all_four x y z w e = grind arith

-- two digits of a number made of two digits are these digits, and the same for four
two_again : (a b : ℕ) → (48 ≤ a) × (a ≤ 57) → (48 ≤ b) × (b ≤ 57)
    → (digit (((0 * 10 + digit_value a) * 10 + digit_value b) / 10) ≡ a) × (digit ((0 * 10 + digit_value a) * 10 + digit_value b) ≡ b)
two_again a b ha hb = rw (digit_is a ha.0 ha.1, digit_is b hb.0 hb.1) (omega arith, omega arith)

abbrev made : ℕ → ℕ → ℕ → ℕ → ℕ
made a b c d = (((0 * 10 + digit_value a) * 10 + digit_value b) * 10 + digit_value c) * 10 + digit_value d

four_again : (a b c d : ℕ) → (48 ≤ a) × (a ≤ 57) → (48 ≤ b) × (b ≤ 57) → (48 ≤ c) × (c ≤ 57) → (48 ≤ d) × (d ≤ 57)
    → (digit (made a b c d / 1000) ≡ a) × (digit (made a b c d / 100) ≡ b) × (digit (made a b c d / 10) ≡ c) × (digit (made a b c d) ≡ d)
four_again a b c d ha hb hc hd = rw (digit_is a ha.0 ha.1, digit_is b hb.0 hb.1, digit_is c hc.0 hc.1, digit_is d hd.0 hd.1) (omega arith, omega arith, omega arith, omega arith)

ten_again : (a b c d e f g h i j : ℕ) → IsSpelled (a ∷ b ∷ c ∷ d ∷ e ∷ f ∷ g ∷ h ∷ i ∷ j ∷ [])
    → date_text (date_in (a ∷ b ∷ c ∷ d ∷ e ∷ f ∷ g ∷ h ∷ i ∷ j ∷ [])) ≡ a ∷ b ∷ c ∷ d ∷ e ∷ f ∷ g ∷ h ∷ i ∷ j ∷ []
ten_again a b c d e f g h i j s =
    let y = of_all_four (is_ascii_digit a) (is_ascii_digit b) (is_ascii_digit c) (is_ascii_digit d) s.year in
    let m = of_all_two (is_ascii_digit f) (is_ascii_digit g) s.month in
    let w = of_all_two (is_ascii_digit i) (is_ascii_digit j) s.day in
    let year = four_again a b c d (digit_bounds a y.0) (digit_bounds b y.1) (digit_bounds c y.2) (digit_bounds d y.3) in
    let month = two_again f g (digit_bounds f m.0) (digit_bounds g m.1) in
    let day = two_again i j (digit_bounds i w.0) (digit_bounds j w.1) in
    let dash : 45 ≡ e = sym s.dash in
    let second : 45 ≡ h = sym s.second_dash in
    λ x. year.0 x ∷ year.1 x ∷ year.2 x ∷ year.3 x ∷ dash x ∷ month.0 x ∷ month.1 x ∷ second x ∷ day.0 x ∷ day.1 x ∷ []

-- bytes with the form of a date are the text of the date that they write
pub text_again : (bytes : List ℕ) → IsSpelled bytes → date_text (date_in bytes) ≡ bytes
text_again ([]) s = absurd (let ten = s.ten in omega arith)
text_again (a ∷ []) s = absurd (let ten = s.ten in omega arith)
text_again (a ∷ b ∷ []) s = absurd (let ten = s.ten in omega arith)
text_again (a ∷ b ∷ c ∷ []) s = absurd (let ten = s.ten in omega arith)
text_again (a ∷ b ∷ c ∷ d ∷ []) s = absurd (let ten = s.ten in omega arith)
text_again (a ∷ b ∷ c ∷ d ∷ e ∷ []) s = absurd (let ten = s.ten in omega arith)
text_again (a ∷ b ∷ c ∷ d ∷ e ∷ f ∷ []) s = absurd (let ten = s.ten in omega arith)
text_again (a ∷ b ∷ c ∷ d ∷ e ∷ f ∷ g ∷ []) s = absurd (let ten = s.ten in omega arith)
text_again (a ∷ b ∷ c ∷ d ∷ e ∷ f ∷ g ∷ h ∷ []) s = absurd (let ten = s.ten in omega arith)
text_again (a ∷ b ∷ c ∷ d ∷ e ∷ f ∷ g ∷ h ∷ i ∷ []) s = absurd (let ten = s.ten in omega arith)
text_again (a ∷ b ∷ c ∷ d ∷ e ∷ f ∷ g ∷ h ∷ i ∷ j ∷ []) s = ten_again a b c d e f g h i j s
text_again (a ∷ b ∷ c ∷ d ∷ e ∷ f ∷ g ∷ h ∷ i ∷ j ∷ k ∷ rest) s = absurd (let ten = s.ten in omega arith)

-- in dates, a day up to the last is written as the text of its date
pub text_of_day : (n : ℕ) → n ≤ 3_652_058 → instant_text Dates n ≡ date_text (date_of n)
text_of_day n most = by (nat_le n 3_652_058) (grind (arith, nat_tests))
  where
    by : (b : Bool) → b ≡ true → cond b (date_text (date_of n)) (decimal n) ≡ date_text (date_of n)
    by true e = refl
    by false e = cc

told : (n : ℕ) → n ≤ 3_652_058 → instant_of Dates (instant_text Dates n) ≡ Some n
told n most =
    let is = date_of_is n in
    let four = year_within n most in
    let date = date_of n in
    let read : cond (is_date_text (date_text date)) (day_of (date_in (date_text date))) None ≡ day_of (date_in (date_text date)) = when (is_date_text (date_text date)) _ (spelled_if (date_text date) (text_spelled date)) in
    ap (instant_of Dates) (text_of_day n most) ∙ read ∙ ap day_of (date_in_text date is.0 four) ∙ day_of_some date is.0 four ∙ ap Some (day_of_date n)
  where
    when : (b : Bool) (o : Option ℕ) → b ≡ true → cond b o None ≡ o
    when true o e = refl
    when false o e = cc

told_again : (bytes : List ℕ) (n : ℕ) → instant_of Dates bytes ≡ Some n → (n ≤ 3_652_058) × (instant_text Dates n ≡ bytes)
told_again bytes n e = by (is_date_text bytes) (is_date (date_in bytes)) refl refl e
  where
    by : (a b : Bool) → is_date_text bytes ≡ a → is_date (date_in bytes) ≡ b → cond a (cond b (Some (days_before (date_in bytes))) None) None ≡ Some n
        → (n ≤ 3_652_058) × (instant_text Dates n ≡ bytes)
    by true true ea eb found =
        let date = date_in bytes in
        let is = is_date_is date eb in
        let day = date_of_day date is.0 is.1 in
        let same : days_before date ≡ n = cc in
        let most : n ≤ 3_652_058 = omega arith in
        let dated : date_of n ≡ date = ap date_of (sym same) ∙ day.1 in
        (most, text_of_day n most ∙ ap date_text dated ∙ text_again bytes (spelled_is bytes ea))
    by true false ea eb found = absurd cc
    by false b ea eb found = absurd cc

bound_dated : (bytes : List ℕ) (bound : ℕ) → bound_of Dates bytes ≡ Some bound → IsDated bound
bound_dated bytes bound e = by (str_eq_ignore_ascii_case (codes "forever") bytes) e
  where
    by : (b : Bool) → cond b (Some FOREVER) (instant_of Dates bytes) ≡ Some bound → IsDated bound
    by true is = let same : FOREVER ≡ bound = cc in inr (sym same)
    by false is = inl (told_again bytes bound is).0

pub dates_told : DatesRoundTrip
dates_told = (told, told_again, bound_dated)
