-- Months, quarters and years as periods of days. A date's text is that of ISO 8601. This project's own.
use Rattle.std.specs.Prelude.{◌≡◌, ◌≢◌, ◌<◌, ◌≤◌, ℕ, ◌+◌, ◌-◌, ◌*◌, ◌==◌, nat_le, min, Bool, ◌||◌, not, if◌then◌else◌, List, [], ◌∷◌, ◌++◌, codes, decimal, filter, length, slice_index, slice_index_or, take}
use Rattle.std.specs.List.{flat_map, range_with_len}
use Rattle.std.specs.Str.{bytes_eq}
use Rattle.tq_base.specs.Numbers.{instant_text}
use Rattle.tq_base.specs.declared.dates.TheConstants.{LAST_DAY}
use Rattle.tq_base.specs.declared.form.Form.TheVariants.{Dates}
use Rattle.tq_totals.specs.declared.unit.Unit.{Unit}
use Rattle.tq_totals.specs.declared.unit.Unit.TheVariants.{Month, Quarter, Year}

-- the month that the two digits after the year write
abbrev pub month_in : List ℕ → ℕ
month_in date = 10 * (slice_index date 5 - 48) + (slice_index date 6 - 48)

-- the digit of the quarter that has the month
abbrev pub quarter_digit : ℕ → ℕ
quarter_digit month = if nat_le month 3 then 49 else (if nat_le month 6 then 50 else (if nat_le month 9 then 51 else 52))

-- the label of a date: for `2024-05-31` it is `2024-05`, `2024-Q2` or `2024`
abbrev pub label_in : Unit → List ℕ → List ℕ
label_in Month date = take 7 date
label_in Quarter date = take 4 date ++ 45 ∷ 81 ∷ quarter_digit (month_in date) ∷ []
label_in Year date = take 4 date

-- the label of a day
unfoldable pub label : Unit → ℕ → List ℕ
label unit day = label_in unit (instant_text Dates day)

-- whether a period begins at the day: it is the first day, or the day before has another label
abbrev pub begins : Unit → ℕ → ℕ → Bool
begins unit first day = (day == first) || not (bytes_eq (label unit (day - 1)) (label unit day))

-- the days from `first` up to, and not including, `end` at which periods begin
abbrev pub first_days : Unit → ℕ → ℕ → List ℕ
first_days unit first end = filter (begins unit first) (range_with_len first (end - first))

-- the end of a period: the first day of the next one, or `end`
abbrev pub period_end : List ℕ → ℕ → ℕ → ℕ
period_end days end period = slice_index_or days (period + 1) end

-- the line of a period: its number, its label, its first day, and its end
abbrev pub line : Unit → ℕ → ℕ → ℕ → List ℕ
line unit number first end =
    decimal number ++ 44 ∷ (label unit first ++ 44 ∷ (instant_text Dates first ++ 44 ∷ (instant_text Dates end ++ 10 ∷ [])))

-- a line for each period that begins at one of these days; they are numbered from 1
abbrev pub lines : Unit → List ℕ → ℕ → List ℕ
lines unit days end =
    flat_map (λ period. line unit (period + 1) (slice_index days period) (period_end days end period)) (range_with_len 0 (length days))

-- the header line, and a line for each period of the days from `start` to `end`. Days after the last date are left out, and so is
-- the last date itself, since the end of a period must be a date
abbrev pub calendar_text : Unit → ℕ → ℕ → List ℕ
calendar_text unit start end =
    codes "k:int,label:text,from,to\n" ++ lines unit (first_days unit start (min end LAST_DAY)) (min end LAST_DAY)

-- these days cut the days from `first` to `end` into periods: each period has one label, and the next period has another one
pub record IsCalendar (unit : Unit) (first end : ℕ) (days : List ℕ) : Type 0 where
  pub none : end ≤ first → days ≡ []
  pub some : first < end → 0 < length days
  pub begun : first < end → slice_index days 0 ≡ first
  pub rises : (period : ℕ) → period < length days → slice_index days period < period_end days end period
  pub labels : (period day : ℕ) → period < length days → slice_index days period ≤ day → day < period_end days end period
      → label unit day ≡ label unit (slice_index days period)
  pub differ : (period : ℕ) → period + 1 < length days → label unit (slice_index days period) ≢ label unit (slice_index days (period + 1))

-- the periods of the calendar are maximal runs of days with one label, one after the other, from the first day to the end
abbrev pub PeriodsAreRuns : Type 0
PeriodsAreRuns = (unit : Unit) (first end : ℕ) → IsCalendar unit first end (first_days unit first end)
