-- Dates: `YYYY-MM-DD` in the proleptic Gregorian calendar (ISO 8601), years 1 to 9999. Day 0 is 0001-01-01.
use Rattle.std.specs.Prelude.{ℕ, zero, suc, ◌+◌, ◌-◌, ◌/◌, ◌%◌, pos, Bool, ◌&&◌, if◌then◌else◌, ◌==◌, nat_le, nat_lt, List, [], ◌∷◌, ◌++◌, length, take, slice_index, slice_range, Option, Some, None}
use Rattle.std.specs.Char.{is_ascii_digit}
use Rattle.std.specs.List.{list_all}
use Rattle.std.specs.Str.Parse.{digits_value}
use Rattle.jiff_core.specs.Calendar.{day_count, days_in_month}

-- a year, a month and a day of that month
pub record CivilDate : Type 0 where
  pub year : ℕ
  pub month : ℕ
  pub day : ℕ

-- the date exists in the calendar, and its year has four digits
abbrev pub is_date : CivilDate → Bool
is_date date =
    nat_le 1 date.year && nat_le date.year 9999 && nat_le 1 date.month && nat_le date.month 12
    && nat_le 1 date.day && nat_le date.day (days_in_month (pos date.year) date.month)

-- the date of the next day: in the same month, the first of the next month, or the first of the next year
abbrev pub next_date : CivilDate → CivilDate
next_date date =
    if nat_lt date.day (days_in_month (pos date.year) date.month)
    then record { year = date.year; month = date.month; day = date.day + 1 }
    else (if nat_lt date.month 12
    then record { year = date.year; month = date.month + 1; day = 1 }
    else record { year = date.year + 1; month = 1; day = 1 })

-- the date of each day, counted from 0001-01-01
unfoldable pub date_of : ℕ → CivilDate
date_of zero = record { year = 1; month = 1; day = 1 }
date_of (suc n) = next_date (date_of n)

-- the number of days from 0001-01-01 to the date
abbrev pub days_before : CivilDate → ℕ
days_before date = day_count (pos date.year) date.month date.day - day_count (pos 1) 1 1

-- the day of a date, if the date exists
abbrev pub day_of : CivilDate → Option ℕ
day_of date = if is_date date then Some (days_before date) else None

-- the last digit of a number; below, its last two and its last four
abbrev pub digit : ℕ → ℕ
digit n = 48 + n % 10

abbrev pub two_digits : ℕ → List ℕ
two_digits n = digit (n / 10) ∷ digit n ∷ []

abbrev pub four_digits : ℕ → List ℕ
four_digits n = digit (n / 1000) ∷ digit (n / 100) ∷ two_digits n

-- four digits, a dash, two digits, a dash, two digits
abbrev pub date_text : CivilDate → List ℕ
date_text date = four_digits date.year ++ 45 ∷ two_digits date.month ++ 45 ∷ two_digits date.day

-- the bytes have the form of `date_text`
abbrev pub is_date_text : List ℕ → Bool
is_date_text bytes =
    (length bytes == 10) && list_all is_ascii_digit (take 4 bytes) && (slice_index bytes 4 == 45)
    && list_all is_ascii_digit (slice_range bytes 5 7) && (slice_index bytes 7 == 45) && list_all is_ascii_digit (slice_range bytes 8 10)

-- the year, month and day that bytes of this form write
abbrev pub date_in : List ℕ → CivilDate
date_in bytes = record {
  year = digits_value 10 (take 4 bytes);
  month = digits_value 10 (slice_range bytes 5 7);
  day = digits_value 10 (slice_range bytes 8 10);
}
