-- Dates in the formats of exported files. This project's own.
use Rattle.std.specs.Prelude.{◌≡◌, ℕ, ◌-◌, ◌==◌, ◌&&◌, Bool, true, nat_le, if◌then◌else◌, List, [], ◌∷◌, ◌++◌, length, take, drop, codes, Option, Some, None}
use Rattle.std.specs.Option.{option_and_then}
use Rattle.std.specs.Str.{bytes_eq}
use Rattle.tq_base.specs.Numbers.{instant_of}
use Rattle.tq_base.specs.declared.form.Form.TheVariants.{Dates}
use Rattle.tq_import.specs.declared.scratch.Scratch.{Scratch}

-- the digits of a date
pub record DateDigits : Type 0 where
  pub year : List ℕ
  pub month : List ℕ
  pub day : List ℕ

abbrev pub no_digits : DateDigits
no_digits = record { year = []; month = []; day = [] }

-- the digits with one more byte: `d` stands for one of the day, `m` for one of the month, `y` for one of the year, and any
-- other byte for itself
abbrev pub more_digits : ℕ → ℕ → DateDigits → Option DateDigits
more_digits mark byte digits =
    if mark == 100 then Some (record digits { day = digits.day ++ byte ∷ [] })
    else if mark == 109 then Some (record digits { month = digits.month ++ byte ∷ [] })
    else if mark == 121 then Some (record digits { year = digits.year ++ byte ∷ [] })
    else if mark == byte then Some digits
    else None

-- the digits of a date that is written in the format, as `dd.mm.yyyy`, from left to right
abbrev pub digits_in : List ℕ → DateDigits → List ℕ → Option DateDigits
digits_in [] digits [] = Some digits
digits_in [] digits (b ∷ bytes) = None
digits_in (mark ∷ format) digits [] = None
digits_in (mark ∷ format) digits (b ∷ bytes) = option_and_then (λ more. digits_in format more bytes) (more_digits mark b digits)

-- the digits as `YYYY-MM-DD`
abbrev pub iso_text : DateDigits → List ℕ
iso_text digits = digits.year ++ 45 ∷ digits.month ++ 45 ∷ digits.day

-- the day of a date that is written in the format
abbrev pub day_in : List ℕ → List ℕ → Option ℕ
day_in format bytes = option_and_then (λ digits. instant_of Dates (iso_text digits)) (digits_in format no_digits bytes)

-- the bytes before a time of midnight, ` 00:00:00`; all bytes if they do not end so
abbrev pub without_midnight : List ℕ → List ℕ
without_midnight bytes =
    if nat_le 9 (length bytes) && bytes_eq (drop (length bytes - 9) bytes) (codes " 00:00:00") then take (length bytes - 9) bytes else bytes

-- the digits that were gathered
abbrev pub gathered : Scratch → DateDigits
gathered scratch = record { year = scratch.year.items; month = scratch.month.items; day = scratch.day.items }

-- if the flag is set, the byte is the mark, which stands for no digit
abbrev pub IsSeparator : ℕ → ℕ → Bool → Type 0
IsSeparator mark byte is = is ≡ true → (digits : DateDigits) → more_digits mark byte digits ≡ Some digits

-- the text is that of the digits of a date in the format
abbrev pub IsIsoOf : List ℕ → List ℕ → List ℕ → Type 0
IsIsoOf format bytes text = (digits : DateDigits) × (digits_in format no_digits bytes ≡ Some digits) × (iso_text digits ≡ text)
