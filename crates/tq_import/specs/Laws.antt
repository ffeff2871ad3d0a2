-- Laws of the conversions. This project's own.
use Rattle.std.specs.Prelude.{◌≡◌, ◌<◌, ◌≤◌, ◌*◌, ◌^◌, ◌+◌, ◌==◌, ℕ, ℤ, pos, neg_ℤ, All, chars, false, true, if◌then◌else◌, List, [], ◌∷◌, ◌++◌, drop, length, map, slice_index, take, Some}
use Rattle.std.specs.Str.{is_utf8}
use Rattle.std.specs.Str.Parse.{digits_value}
use Rattle.csv.specs.Reading.{records}
use Rattle.tq_base.specs.Dates.{date_of, date_text}
use Rattle.tq_import.specs.declared.encoding.Encoding.TheVariants.{Latin1}
use Rattle.tq_import.specs.declared.plan.NumberFormat.{NumberFormat}
use Rattle.tq_import.specs.declared.plan.TimeFormat.{TimeFormat}
use Rattle.tq_import.specs.Amounts.{fraction_part, is_negative, units_in, unsigned, whole_digits, whole_part}
use Rattle.tq_import.specs.Encodings.{utf8_of}
use Rattle.tq_import.specs.Clock.{second_in, time_in}
use Rattle.tq_import.specs.Dates.{DateDigits, day_in, iso_text}
use Rattle.tq_import.specs.Reading.{separated_by}
use Rattle.tq_import.specs.Times.{bound_in, instant_in, is_open}

-- the number n of units of 10^-places is the amount that the digits write: n / 10^places is their value divided by 10 to
-- the number of digits after the point
pub record AreUnitsOf (format : NumberFormat) (places : ℕ) (bytes : List ℕ) (n : ℕ) : Type 0 where
  pub whole : List ℕ
  pub digits : whole_digits format.thousands (whole_part format.point (unsigned bytes)) ≡ Some whole
  pub few : length (fraction_part format.point (unsigned bytes)) ≤ places
  pub same : n * 10 ^ length (fraction_part format.point (unsigned bytes)) ≡ digits_value 10 (whole ++ fraction_part format.point (unsigned bytes)) * 10 ^ places

-- units are exactly the amount that is written
abbrev pub UnitsAreExact : Type 0
UnitsAreExact = (format : NumberFormat) (places : ℕ) (bytes : List ℕ) (units : ℤ) → units_in format places bytes ≡ Some units
    → (n : ℕ) × (units ≡ (if is_negative bytes then neg_ℤ (pos n) else pos n)) × AreUnitsOf format places bytes n

-- the first of the bytes
abbrev pub first : List ℕ → ℕ
first bytes = slice_index bytes 0

-- how the digits of a date are written in a format
abbrev pub written : List ℕ → DateDigits → List ℕ
written [] digits = []
written (mark ∷ format) digits =
    if mark == 100 then first digits.day ∷ written format (record digits { day = drop 1 digits.day })
    else if mark == 109 then first digits.month ∷ written format (record digits { month = drop 1 digits.month })
    else if mark == 121 then first digits.year ∷ written format (record digits { year = drop 1 digits.year })
    else mark ∷ written format digits

-- a field that is read as a day is what the format writes of the digits of that day's date
abbrev pub DatesAreWrittenBack : Type 0
DatesAreWrittenBack = (format bytes : List ℕ) (day : ℕ) → day_in format bytes ≡ Some day
    → (digits : DateDigits) × (iso_text digits ≡ date_text (date_of day)) × (written format digits ≡ bytes)

-- a second is counted from a day in the format and the seconds since its midnight, of which a day has 86,400
abbrev pub SecondsAreCounted : Type 0
SecondsAreCounted = (format bytes : List ℕ) (second : ℕ) → second_in format bytes ≡ Some second
    → (day time : ℕ) × (day_in format (take (length format) bytes) ≡ Some day) × (time_in (drop (length format) bytes) ≡ Some time)
    × (time < 86400) × (second + 719162 * 86400 ≡ day * 86400 + time)

-- an end that is included ends the period at the next instant; any other end at itself
abbrev pub EndsAreKept : Type 0
EndsAreKept = (times : TimeFormat) (field : List ℕ) (end bound : ℕ) → is_open times.open field ≡ false → instant_in times field ≡ Some end → bound_in times field ≡ Some bound
    → bound ≡ (if times.inclusive then end + 1 else end)

-- a file in Latin-1 becomes UTF-8 whose characters have the bytes of the file as their code points
abbrev pub Latin1IsKept : Type 0
Latin1IsKept = (bytes : List ℕ) → All (λ b. b < 256) bytes → (is_utf8 (utf8_of Latin1 bytes) ≡ true) × (chars (utf8_of Latin1 bytes) ≡ bytes)

-- the records of a file in Latin-1 are those of its bytes, with each field as UTF-8, if the delimiter is ASCII
abbrev pub Latin1FieldsAreConverted : Type 0
Latin1FieldsAreConverted = (delimiter : ℕ) (bytes : List ℕ) → delimiter < 128
    → records (separated_by delimiter) (utf8_of Latin1 bytes) ≡ map (λ fields. map (λ field. utf8_of Latin1 field) fields) (records (separated_by delimiter) bytes)
