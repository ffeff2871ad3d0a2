-- The days of a month up to its 28th follow each other, and only the first is a first day of a unit.
use Rattle.std.proofs.Common.{◌≡◌, ◌≢◌, ◌∙◌, ℕ, zero, suc, ◌+◌, ◌-◌, ◌*◌, ◌/◌, ◌<◌, ◌≤◌, ◌&&◌, ◌⊎◌, Bool, true, false, nat_eq, nat_le, nat_lt, List, ap, sym, arith, get_or, inl, inr, length, length-take, pos, refl, take}
use Rattle.std.proofs.lemmas.Bool.Decides.{eqb_tells, nat_tests}
use Rattle.std.proofs.lemmas.List.{get_or-take}
use Rattle.jiff_core.proofs.CalendarLemmas.{days_in_month_bounds}
use Rattle.jiff_core.specs.Calendar.{days_in_month}
use Rattle.tq_base.proofs.DateLemmas.{count_within, date_of_is, year_within}
use Rattle.tq_base.specs.Dates.{CivilDate, date_of, date_text, digit, next_date}
use Rattle.tq_base.specs.Numbers.{instant_text}
use Rattle.tq_base.specs.declared.form.Form.TheVariants.{Dates}
use Rattle.tq_draw.specs.Calendar.{is_first, is_first_date}
use Rattle.tq_draw.specs.declared.calendar.Unit as calendar
use Rattle.tq_draw.specs.declared.calendar.Unit.TheVariants.{Day, Month, Quarter, Year, Decade, Century, Millennium}

-- the date that many days later in its month
abbrev later : CivilDate → ℕ → CivilDate
later date n = record { year = date.year; month = date.month; day = date.day + n }

abbrev on_day : CivilDate → ℕ → CivilDate
on_day date n = record { year = date.year; month = date.month; day = n }

next_in_month : (date : CivilDate) (n : ℕ) → date.day + suc n ≤ 28 → next_date (later date n) ≡ later date (suc n)
next_in_month date n within =
    let bounds = days_in_month_bounds (pos date.year) date.month in
    let test : nat_lt (date.day + n) (days_in_month (pos date.year) date.month) ≡ true = grind (arith, nat_tests, bounds.1, within) in
    rw test (ap (on_day date) (let e : date.day + n + 1 ≡ date.day + suc n = omega arith in e))

same_month : (day n : ℕ) → (date_of day).day + n ≤ 28 → date_of (day + n) ≡ later (date_of day) n
unfolding date_of
same_month day zero within =
    ap date_of (let e : day + 0 ≡ day = omega arith in e)
    ∙ ap (on_day (date_of day)) (let e : (date_of day).day ≡ (date_of day).day + 0 = omega arith in e)
same_month day (suc n) within =
    ap date_of (let e : day + suc n ≡ suc (day + n) = omega arith in e)
    ∙ ap next_date (same_month day n (omega (arith, within)))
    ∙ next_in_month (date_of day) n within

and_none : (x : Bool) → (x && false) ≡ false
and_none true = refl
and_none false = refl

-- the last two digits of a date are `01` only on the first of a month
last_two : (day : ℕ) → 2 ≤ day → day ≤ 28 → (nat_eq 48 (digit (day / 10)) && (nat_eq 49 (digit day) && true)) ≡ false
last_two day low high =
    elim (eqb_tells 48 (digit (day / 10))) [
      | inl tens ↦ elim (eqb_tells 49 (digit day)) [
        | inl ones ↦ absurd (omega (arith, tens.1, ones.1))
        | inr other ↦ rw (tens.0, other.0) refl
      ]
      | inr other ↦ rw other.0 refl
    ]

not_first : (unit : calendar.Unit) (date : CivilDate) → unit ≢ Day → 2 ≤ date.day → date.day ≤ 28 → is_first_date unit (date_text date) ≡ false
not_first Day date other low high = absurd (other refl)
not_first Month date other low high = simp (last_two date.day low high)
not_first Quarter date other low high = simp (last_two date.day low high, and_none)
not_first Year date other low high = simp (last_two date.day low high, and_none)
not_first Decade date other low high = simp (last_two date.day low high, and_none)
not_first Century date other low high = simp (last_two date.day low high, and_none)
not_first Millennium date other low high = simp (last_two date.day low high, and_none)

-- the days after this one up to the 28th are no first days of months or longer units
pub none_ahead : (unit : calendar.Unit) (day other : ℕ) → unit ≢ Day → day ≤ 3652058 → day < other → other ≤ day + (28 - (date_of day).day)
    → is_first unit other ≡ false
unfolding is_first
none_ahead unit day other coarse dated after near =
    let n = other - day in
    let date = date_of day in
    let is = date_of_is day in
    let within : date.day + n ≤ 28 = omega arith in
    let moved : date_of other ≡ later date n = ap date_of (let e : other ≡ day + n = omega arith in e) ∙ same_month day n within in
    let there = date_of_is other in
    let four = year_within day dated in
    let year : (date_of other).year ≡ date.year = ap (λ (d : CivilDate). d.year) moved in
    let count = count_within (date_of other) there.0 (omega (arith, year, four)) in
    let last : other ≤ 3652058 = omega (arith, there.1, count.1) in
    let test : nat_le other 3652058 ≡ true = grind (arith, nat_tests, last) in
    let text : instant_text Dates other ≡ date_text (date_of other) = rw test refl in
    ap (is_first_date unit) (text ∙ ap date_text moved)
    ∙ not_first unit (later date n) coarse (omega (arith, is.0.3, after)) within

pub day_or_longer : (unit : calendar.Unit) → (unit ≡ Day) ⊎ (unit ≢ Day)
day_or_longer Day = inl refl
day_or_longer Month = inr (λ same. cc)
day_or_longer Quarter = inr (λ same. cc)
day_or_longer Year = inr (λ same. cc)
day_or_longer Decade = inr (λ same. cc)
day_or_longer Century = inr (λ same. cc)
day_or_longer Millennium = inr (λ same. cc)

two_digits_of : (day : ℕ) → day ≤ 31 → 10 * (digit (day / 10) - 48) + (digit day - 48) ≡ day
two_digits_of day few = omega arith

-- the day of the month that the text of a day's date has
pub day_bytes : (day len : ℕ) (bytes : List ℕ) → day ≤ 3652058 → length bytes ≡ 12 → take len bytes ≡ instant_text Dates day
    → 10 * (get_or bytes 8 0 - 48) + (get_or bytes 9 0 - 48) ≡ (date_of day).day
day_bytes day len bytes dated long is =
    let date = date_of day in
    let test : nat_le day 3652058 ≡ true = grind (arith, nat_tests, dated) in
    let text : take len bytes ≡ date_text date = is ∙ rw test refl in
    let ten : length (take len bytes) ≡ 10 = ap (λ (l : List ℕ). length l) text in
    let enough : 9 < len = omega (arith, ten, length-take len bytes, long) in
    let tens : get_or bytes 8 0 ≡ digit (date.day / 10) = sym (get_or-take len bytes 8 0 (omega arith)) ∙ ap (λ (l : List ℕ). get_or l 8 0) text in
    let ones : get_or bytes 9 0 ≡ digit date.day = sym (get_or-take len bytes 9 0 (omega arith)) ∙ ap (λ (l : List ℕ). get_or l 9 0) text in
    let in_month = (date_of_is day).0 in
    let bounds = days_in_month_bounds (pos date.year) date.month in
    ap (λ (n : ℕ). 10 * (n - 48) + (get_or bytes 9 0 - 48)) tens
    ∙ ap (λ (n : ℕ). 10 * (digit (date.day / 10) - 48) + (n - 48)) ones
    ∙ two_digits_of date.day (omega (arith, in_month.4, bounds.0))
