-- The date of each day, and the day of each date.
use Rattle.std.proofs.Common.{◌≡◌, ℕ, zero, suc, ◌+◌, ◌-◌, ◌<◌, ◌≤◌, ◌==◌, ◌&&◌, Bool, true, false, cond, nat_le, nat_lt, List, length, take, get_or, Option, Some, None, refl, sym, ap, subst, ◌∙◌, arith, ℤ, pos, ◌+ℤ◌, ◌-ℤ◌, ◌*ℤ◌, ◌≤ℤ◌, ◌*◌, ◌/◌, int_div, negsuc, unsigned_abs}
use Rattle.std.proofs.Math.Nat.{mul-div_cancel}
use Rattle.std.specs.Bool.{Decides}
use Rattle.std.specs.Char.{is_ascii_digit}
use Rattle.std.specs.List.{list_all, slice_range}
use Rattle.std.specs.Str.Parse.{digits_value}
use Rattle.std.proofs.lemmas.Bool.Decides.{nat_tests}
use Rattle.jiff_core.specs.declared.civil.date.Date.{Date}
use Rattle.jiff_core.specs.Calendar.{day_count, days_from_civil, days_in_month}
use Rattle.jiff_core.specs.Date.{epoch_day, IsYmd}
use Rattle.jiff_core.proofs.CalendarLemmas.{days_in_month_bounds, day_count-day, day_count-next_month, day_count-last_of_year, day_count-next_year, day_count-later_year, day_count-day_of_year, day_count_bounds, day_count-end, days_from_civil-day_count}
use Rattle.jiff_core.proofs.DateLemmas.{epoch_day_injective, epoch_day_range}
use Rattle.jiff_core.proofs.MarchLemmas.{day_count-early}
use Rattle.jiff_core.proofs.SignedLemmas.{signed_arith}
use Rattle.tq_base.specs.Dates.{CivilDate, date_in, date_of, day_of, days_before, is_date, is_date_text, next_date}
use Rattle.tq_base.specs.Numbers.{instant_of, natural_up_to}
use Rattle.tq_base.specs.declared.form.Form.TheVariants.{Dates}

-- a date of the calendar with a year from 1 on
abbrev pub InCalendar : CivilDate → Type 0
InCalendar date = (1 ≤ date.year) × (1 ≤ date.month) × (date.month ≤ 12) × (1 ≤ date.day) × (date.day ≤ days_in_month (pos date.year) date.month)

-- the days from 1 January of the year -10000 up to the date, as `jiff` counts them
abbrev pub count_of : CivilDate → ℕ
count_of date = day_count (pos date.year) date.month date.day

pub first_count : day_count (pos 1) 1 1 ≡ 3_652_791
first_count = day_count-early (pos 1) 10000 1 1 refl (omega arith) (omega arith) (omega arith)

-- the second date is in the calendar, one day after the first
abbrev pub IsNext : CivilDate → CivilDate → Type 0
IsNext date next = InCalendar next × (count_of next ≡ count_of date + 1)

day_later : (date : CivilDate) → InCalendar date → date.day < days_in_month (pos date.year) date.month
    → IsNext date (record { year = date.year; month = date.month; day = date.day + 1 })
day_later date h less =
    ((h.0, h.1, h.2, omega arith, omega arith), omega (arith, day_count-day (pos date.year) date.month date.day (date.day + 1) h.3 (omega arith)))

month_later : (date : CivilDate) → InCalendar date → days_in_month (pos date.year) date.month ≤ date.day → date.month < 12
    → IsNext date (record { year = date.year; month = date.month + 1; day = 1 })
month_later date h last less =
    let bounds = days_in_month_bounds (pos date.year) (date.month + 1) in
    ((h.0, omega arith, omega arith, omega arith, omega arith), omega (arith, day_count-day (pos date.year) date.month date.day 1 h.3 (omega arith), day_count-next_month (pos date.year) date.month h.1))

year_later : (date : CivilDate) → InCalendar date → days_in_month (pos date.year) date.month ≤ date.day → 12 ≤ date.month
    → IsNext date (record { year = date.year + 1; month = 1; day = 1 })
year_later date h last most = by date.year date.month date.day h.0 (omega arith) (omega arith)
  where
    by : (y m d : ℕ) → 1 ≤ y → m ≡ 12 → d ≡ days_in_month (pos y) m → IsNext (record { year = y; month = m; day = d }) (record { year = y + 1; month = 1; day = 1 })
    by y m d low dec end =
        let bounds = days_in_month_bounds (pos (y + 1)) 1 in
        let last : d ≡ 31 = rw (end, dec) in
        rw (last, dec) ((omega arith, omega arith, omega arith, omega arith, omega arith), omega (arith, day_count-last_of_year (pos y), day_count-next_year (pos y) (pos (y + 1)) (omega (arith, signed_arith)) (omega (arith, signed_arith))))

pub next_is : (date : CivilDate) → InCalendar date → IsNext date (next_date date)
next_is date h = by (nat_lt date.day (days_in_month (pos date.year) date.month)) refl
  where
    by_month : (b : Bool) → days_in_month (pos date.year) date.month ≤ date.day → nat_lt date.month 12 ≡ b
        → IsNext date (cond b (record { year = date.year; month = date.month + 1; day = 1 }) (record { year = date.year + 1; month = 1; day = 1 }))
    by_month true last e = month_later date h last (grind (arith, nat_tests))
    by_month false last e = year_later date h last (grind (arith, nat_tests))

    by : (b : Bool) → nat_lt date.day (days_in_month (pos date.year) date.month) ≡ b
        → IsNext date (cond b (record { year = date.year; month = date.month; day = date.day + 1 }) (cond (nat_lt date.month 12) (record { year = date.year; month = date.month + 1; day = 1 }) (record { year = date.year + 1; month = 1; day = 1 })))
    by true e = day_later date h (grind (arith, nat_tests))
    by false e = by_month (nat_lt date.month 12) (grind (arith, nat_tests)) refl

-- each day has a date of the calendar, which lies that many days after 0001-01-01
pub date_of_is : (n : ℕ) → InCalendar (date_of n) × (count_of (date_of n) ≡ 3_652_791 + n)
unfolding date_of
date_of_is zero = let bounds = days_in_month_bounds (pos 1) 1 in ((omega arith, omega arith, omega arith, omega arith, omega arith), omega (arith, first_count))
date_of_is (suc n) =
    let before = date_of_is n in
    let next = next_is (date_of n) before.0 in
    (next.0, omega arith)

-- the years of the first 3,652,059 days have four digits
pub year_within : (n : ℕ) → n ≤ 3_652_058 → (date_of n).year ≤ 9999
year_within n h =
    let is = date_of_is n in
    by (date_of n) is.0 (omega arith)
  where
    by : (date : CivilDate) → InCalendar date → count_of date ≤ 7_304_849 → date.year ≤ 9999
    by date held most = by_year (nat_lt 9999 date.year) refl
      where
        by_year : (b : Bool) → nat_lt 9999 date.year ≡ b → date.year ≤ 9999
        by_year true e =
            let more : 9999 < date.year = grind (arith, nat_tests) in
            let later = day_count-later_year (pos 9999) (pos date.year) (omega (arith, signed_arith)) (omega (arith, signed_arith)) in
            let next = day_count-next_year (pos 9999) (pos 10000) (omega (arith, signed_arith)) (omega (arith, signed_arith)) in
            absurd (omega (arith, day_count-end, day_count-day_of_year (pos date.year) date.month date.day held.3))
        by_year false e = grind (arith, nat_tests)

-- a date of the calendar whose year has four digits, as `jiff` represents it
abbrev pub jiff_date : (date : CivilDate) → InCalendar date → date.year ≤ 9999 → Date
jiff_date date h four = record {
  year = pos date.year;
  month = date.month;
  day = date.day;
  year_in = (omega (arith, signed_arith), omega (arith, signed_arith));
  month_in = (h.1, h.2);
  day_in = (h.3, h.4);
}

counts : (a b : CivilDate) (ha : InCalendar a) (fa : a.year ≤ 9999) (hb : InCalendar b) (fb : b.year ≤ 9999) → count_of a ≡ count_of b
    → epoch_day (jiff_date a ha fa) ≡ epoch_day (jiff_date b hb fb)
unfolding days_from_civil
counts a b ha fa hb fb e = ap (λ (n : ℕ). pos n -ℤ pos (day_count (pos 1970) 1 1)) e

-- two such dates with the same day count have the same parts
pub same_count : (a b : CivilDate) → InCalendar a → a.year ≤ 9999 → InCalendar b → b.year ≤ 9999 → count_of a ≡ count_of b → a ≡ b
same_count a b ha fa hb fb e =
    let parts = epoch_day_injective (jiff_date a ha fa) (jiff_date b hb fb) (counts a b ha fa hb fb e) in
    civil_same a b (omega (arith, signed_arith, parts.0)) parts.1 parts.2
  where
    civil_same : (a b : CivilDate) → a.year ≡ b.year → a.month ≡ b.month → a.day ≡ b.day → a ≡ b
    civil_same a b year month day = λ i. record { year = year i; month = month i; day = day i }

-- the days from 0001-01-01 on, and those with years of four digits, have these counts
pub count_within : (date : CivilDate) → InCalendar date → date.year ≤ 9999 → (3_652_791 ≤ count_of date) × (count_of date ≤ 7_304_849)
count_within date h four =
    (by (nat_lt 1 date.year) refl, (day_count_bounds (pos date.year) date.month date.day ((omega (arith, signed_arith), omega (arith, signed_arith)), (h.1, h.2), (h.3, h.4))).1)
  where
    by : (b : Bool) → nat_lt 1 date.year ≡ b → 3_652_791 ≤ count_of date
    by true e =
        let more : 1 < date.year = grind (arith, nat_tests) in
        let later = day_count-later_year (pos 1) (pos date.year) (omega (arith, signed_arith)) (omega (arith, signed_arith)) in
        omega (arith, first_count, day_count-day_of_year (pos date.year) date.month date.day h.3)
    by false e =
        let most : date.year ≤ 1 = grind (arith, nat_tests) in
        let one : date.year ≡ 1 = omega arith in
        let first : day_count (pos date.year) 1 1 ≡ 3_652_791 = rw one first_count in
        omega (arith, first, day_count-day_of_year (pos date.year) date.month date.day h.3)

-- the day of a date is the day that has this date
pub date_of_day : (date : CivilDate) → InCalendar date → date.year ≤ 9999 → (days_before date ≤ 3_652_058) × (date_of (days_before date) ≡ date)
date_of_day date h four =
    let within = count_within date h four in
    let most : days_before date ≤ 3_652_058 = omega (arith, first_count) in
    let is = date_of_is (days_before date) in
    (most, same_count (date_of (days_before date)) date is.0 (year_within (days_before date) most) h four (omega (arith, first_count)))

-- the number of days before the date of a day is the day
pub day_of_date : (n : ℕ) → days_before (date_of n) ≡ n
day_of_date n = let is = date_of_is n in omega (arith, first_count)

-- `jiff` has the date of the day
pub jiff_day : (d : Date) (n : ℕ) → n ≤ 3_652_058 → epoch_day d +ℤ pos 4_371_587 ≡ pos (n + 3_652_425)
    → (d.year ≡ pos (date_of n).year) × (d.month ≡ (date_of n).month) × (d.day ≡ (date_of n).day)
jiff_day d n most e =
    let is = date_of_is n in
    let four = year_within n most in
    let same : epoch_day d ≡ epoch_day (jiff_date (date_of n) is.0 four) = omega (arith, signed_arith, days_from_civil-day_count (pos (date_of n).year) (date_of n).month (date_of n).day) in
    epoch_day_injective d (jiff_date (date_of n) is.0 four) same

-- the tests of a date, and what they mean
tests : (y m d long : ℕ) → Decides (nat_le 1 y && nat_le y 9999 && nat_le 1 m && nat_le m 12 && nat_le 1 d && nat_le d long)
    ((1 ≤ y) × (y ≤ 9999) × (1 ≤ m) × (m ≤ 12) × (1 ≤ d) × (d ≤ long))
tests y m d long = (λ t. grind (arith, nat_tests), λ p. grind (arith, nat_tests))

pub is_date_is : (date : CivilDate) → is_date date ≡ true → InCalendar date × (date.year ≤ 9999)
is_date_is date e =
    let p = (tests date.year date.month date.day (days_in_month (pos date.year) date.month)).0 e in
    ((p.0, p.2, p.3, p.4, p.5), p.1)

pub is_date_if : (date : CivilDate) → InCalendar date → date.year ≤ 9999 → is_date date ≡ true
is_date_if date h four =
    (tests date.year date.month date.day (days_in_month (pos date.year) date.month)).1 (h.0, four, h.1, h.2, h.3, h.4)

pub day_of_some : (date : CivilDate) → InCalendar date → date.year ≤ 9999 → day_of date ≡ Some (days_before date)
day_of_some date h four = rw (is_date_if date h four)

pub day_of_none : (date : CivilDate) → (InCalendar date → date.year ≤ 9999 → ⊥) → day_of date ≡ None
day_of_none date never = by (is_date date) refl
  where
    by : (b : Bool) → is_date date ≡ b → cond b (Some (days_before date)) None ≡ None
    by true e = let is = is_date_is date e in absurd (never is.0 is.1)
    by false e = refl

-- the bytes have the form of a date
pub record IsSpelled (bytes : List ℕ) : Type 0 where
  pub ten : length bytes ≡ 10
  pub year : list_all is_ascii_digit (take 4 bytes) ≡ true
  pub dash : get_or bytes 4 0 ≡ 45
  pub month : list_all is_ascii_digit (slice_range bytes 5 7) ≡ true
  pub second_dash : get_or bytes 7 0 ≡ 45
  pub day : list_all is_ascii_digit (slice_range bytes 8 10) ≡ true

spelled_tests : (n p q : ℕ) (a b c : Bool) → Decides ((n == 10) && a && (p == 45) && b && (q == 45) && c) ((n ≡ 10) × (a ≡ true) × (p ≡ 45) × (b ≡ true) × (q ≡ 45) × (c ≡ true))
spelled_tests n p q a b c = (λ t. grind (arith, nat_tests), λ t. grind (arith, nat_tests))

pub spelled_is : (bytes : List ℕ) → is_date_text bytes ≡ true → IsSpelled bytes
spelled_is bytes e =
    let p = (spelled_tests (length bytes) (get_or bytes 4 0) (get_or bytes 7 0) (list_all is_ascii_digit (take 4 bytes)) (list_all is_ascii_digit (slice_range bytes 5 7)) (list_all is_ascii_digit (slice_range bytes 8 10))).0 e in
    record { ten = p.0; year = p.1; dash = p.2; month = p.3; second_dash = p.4; day = p.5 }

pub spelled_if : (bytes : List ℕ) → IsSpelled bytes → is_date_text bytes ≡ true
spelled_if bytes s =
    (spelled_tests (length bytes) (get_or bytes 4 0) (get_or bytes 7 0) (list_all is_ascii_digit (take 4 bytes)) (list_all is_ascii_digit (slice_range bytes 5 7)) (list_all is_ascii_digit (slice_range bytes 8 10))).1
    (s.ten, s.year, s.dash, s.month, s.second_dash, s.day)

-- bytes that are not a valid date are not a valid instant
pub no_date : (bytes : List ℕ) → (IsSpelled bytes → InCalendar (date_in bytes) → (date_in bytes).year ≤ 9999 → ⊥) → None ≡ instant_of Dates bytes
no_date bytes never = by (is_date_text bytes) refl
  where
    by : (b : Bool) → is_date_text bytes ≡ b → None ≡ cond b (day_of (date_in bytes)) None
    by true e = sym (day_of_none (date_in bytes) (never (spelled_is bytes e)))
    by false e = refl

pub natural_none : (limit : ℕ) (bytes : List ℕ) → None ≡ natural_up_to limit bytes → 0 < length bytes → list_all is_ascii_digit bytes ≡ true → digits_value 10 bytes ≤ limit → ⊥
natural_none limit bytes none some digits most = by (nat_lt 0 (length bytes)) (list_all is_ascii_digit bytes) (nat_le (digits_value 10 bytes) limit) (grind (arith, nat_tests)) digits (grind (arith, nat_tests)) none
  where
    by : (a b c : Bool) → a ≡ true → b ≡ true → c ≡ true → None ≡ cond ((a && b) && c) (Some (digits_value 10 bytes)) None → ⊥
    by true true true ea eb ec n = cc
    by false b c ea eb ec n = cc
    by true false c ea eb ec n = cc
    by true true false ea eb ec n = cc

pub natural_some : (limit value : ℕ) (bytes : List ℕ) → Some value ≡ natural_up_to limit bytes → (list_all is_ascii_digit bytes ≡ true) × (digits_value 10 bytes ≡ value) × (value ≤ limit)
natural_some limit value bytes some = by (nat_lt 0 (length bytes)) (list_all is_ascii_digit bytes) (nat_le (digits_value 10 bytes) limit) refl refl some
  where
    by : (a b c : Bool) → list_all is_ascii_digit bytes ≡ b → nat_le (digits_value 10 bytes) limit ≡ c → Some value ≡ cond ((a && b) && c) (Some (digits_value 10 bytes)) None
        → (list_all is_ascii_digit bytes ≡ true) × (digits_value 10 bytes ≡ value) × (value ≤ limit)
    by true true true eb ec n =
        let same : digits_value 10 bytes ≡ value = cc in
        let most : digits_value 10 bytes ≤ limit = grind (arith, nat_tests) in
        (eb, same, omega arith)
    by false b c eb ec n = absurd (let other : None ≡ Some value = sym n in cc)
    by true false c eb ec n = absurd (let other : None ≡ Some value = sym n in cc)
    by true true false eb ec n = absurd (let other : None ≡ Some value = sym n in cc)

-- the date that `jiff` makes of a year, a month and a day is in the calendar; its day count is from the first date
pub jiff_has : (d : Date) (k : ℕ) (date : CivilDate) → 1 ≤ date.year → IsYmd (pos date.year) (pos date.month) (pos date.day) d → epoch_day d +ℤ pos 4_371_587 ≡ pos k
    → (3_652_425 ≤ k) × (day_of date ≡ Some (k - 3_652_425))
jiff_has d k date low h e =
    let month : d.month ≡ date.month = omega (arith, signed_arith, h.1) in
    let day : d.day ≡ date.day = omega (arith, signed_arith, h.2) in
    let four : date.year ≤ 9999 = omega (arith, signed_arith, h.0, d.year_in.1) in
    let last_day = subst (λ (n : ℕ). n ≤ days_in_month d.year d.month) day d.day_in.1 in
    let last_month = subst (λ (n : ℕ). date.day ≤ days_in_month d.year n) month last_day in
    let last = subst (λ (z : ℤ). date.day ≤ days_in_month z date.month) h.0 last_month in
    let here : InCalendar date = (low, omega (arith, month, d.month_in.0), omega (arith, month, d.month_in.1), omega (arith, day, d.day_in.0), last) in
    let counted : day_count d.year d.month d.day ≡ k + 366 = omega (arith, signed_arith, days_from_civil-day_count d.year d.month d.day) in
    let count_day = subst (λ (n : ℕ). day_count d.year d.month n ≡ k + 366) day counted in
    let count_month = subst (λ (n : ℕ). day_count d.year n date.day ≡ k + 366) month count_day in
    let count : count_of date ≡ k + 366 = subst (λ (z : ℤ). day_count z date.month date.day ≡ k + 366) h.0 count_month in
    let within = count_within date here four in
    let days : days_before date ≡ k - 3_652_425 = omega (arith, first_count) in
    (omega arith, day_of_some date here four ∙ ap Some days)

-- bytes that have the form of a date, and write one, are read as its day
pub instant_of_date : (bytes : List ℕ) (date : CivilDate) → IsSpelled bytes → digits_value 10 (take 4 bytes) ≡ date.year → digits_value 10 (slice_range bytes 5 7) ≡ date.month → digits_value 10 (slice_range bytes 8 10) ≡ date.day
    → day_of date ≡ instant_of Dates bytes
instant_of_date bytes date s year month day =
    let same : date_in bytes ≡ date = λ i. record { year = year i; month = month i; day = day i } in
    sym (when (is_date_text bytes) (day_of (date_in bytes)) (spelled_if bytes s) ∙ ap day_of same)
  where
    when : (b : Bool) (o : Option ℕ) → b ≡ true → cond b o None ≡ o
    when true o e = refl
    when false o e = cc

min_count : day_count (negsuc 9998) 1 1 ≡ 366
min_count = day_count-early (negsuc 9998) 0 1 1 refl (omega arith) (omega arith) (omega arith)

-- the first date of `jiff`, -9999-01-01, has this day number
pub min_day : (d : Date) → d.year ≡ negsuc 9998 → d.month ≡ 1 → d.day ≡ 1 → epoch_day d +ℤ pos 4_371_587 ≡ pos 0
min_day d year month day =
    let count : day_count d.year d.month d.day ≡ 366 = rw (year, month, day) min_count in
    omega (arith, signed_arith, days_from_civil-day_count d.year d.month d.day)

-- the whole days of that many nanoseconds, counted in hours
pub whole_days : (e : ℤ) (k : ℕ) → e ≡ pos k → unsigned_abs (int_div (e *ℤ pos 86_400_000_000_000) (pos 3_600_000_000_000)) / 24 ≡ k
whole_days e k same =
    let hours : k * 86_400_000_000_000 ≡ k * 24 * 3_600_000_000_000 = omega arith in
    rw (same, hours, mul-div_cancel (k * 24) {n = 3_600_000_000_000} (omega arith)) (mul-div_cancel k {n = 24} (omega arith))

-- the hours from the first date of `jiff` to a date are those of whole days
pub days_from_min : (d first : Date) (nanos hours : ℤ) (count : ℕ) → epoch_day first +ℤ pos 4_371_587 ≡ pos 0
    → nanos ≡ (epoch_day d -ℤ epoch_day first) *ℤ pos 86_400_000_000_000 → hours ≡ int_div nanos (pos 3_600_000_000_000) → count ≡ unsigned_abs hours
    → epoch_day d +ℤ pos 4_371_587 ≡ pos (count / 24)
days_from_min d first nanos hours count low gap whole same =
    let range = epoch_day_range d in
    by (epoch_day d -ℤ epoch_day first) refl (omega (arith, signed_arith))
  where
    by : (z : ℤ) → epoch_day d -ℤ epoch_day first ≡ z → pos 0 ≤ℤ z → epoch_day d +ℤ pos 4_371_587 ≡ pos (count / 24)
    by (pos k) e h =
        let is : count / 24 ≡ k = rw (same, whole, gap) (whole_days (epoch_day d -ℤ epoch_day first) k e) in
        omega (arith, signed_arith, is, e, low)
    by (negsuc k) e h = absurd (omega (arith, signed_arith))
