-- How numbers and instants are written in files, statements and answers. This project's own.
use Rattle.std.specs.Prelude.{◌≡◌, ◌⊎◌, ℕ, ◌≤◌, ◌-◌, ◌^◌, ℤ, pos, neg_ℤ, Bool, ◌&&◌, if◌then◌else◌, ◌==◌, nat_le, nat_lt, List, [], ◌∷◌, length, Option, Some, None, option_map, codes, decimal}
use Rattle.std.specs.Char.{is_ascii_digit}
use Rattle.std.specs.List.{list_all}
use Rattle.std.specs.Str.{str_eq_ignore_ascii_case}
use Rattle.std.specs.Str.Parse.{digits_value}
use Rattle.tq_base.specs.Dates.{date_in, date_of, date_text, day_of, is_date_text}
use Rattle.tq_base.specs.declared.dates.TheConstants.{LAST_DAY}
use Rattle.tq_base.specs.declared.form.Form.{Form}
use Rattle.tq_base.specs.declared.form.Form.TheVariants.{Numbers, Dates}
use Rattle.tq_base.specs.declared.period.TheConstants.{FOREVER}

-- one or more ASCII digits; leading zeros are allowed
abbrev pub is_numeral : List ℕ → Bool
is_numeral bytes = nat_lt 0 (length bytes) && list_all is_ascii_digit bytes

-- the number that the digits write, if the bytes are digits and the number is at most the limit
abbrev pub natural_up_to : ℕ → List ℕ → Option ℕ
natural_up_to limit bytes =
    if is_numeral bytes && nat_le (digits_value 10 bytes) limit then Some (digits_value 10 bytes) else None

-- digits after an optional `-`, with a value of 64 signed bits
abbrev pub int_of : List ℕ → Option ℤ
int_of [] = None
int_of (b ∷ bs) =
    if b == 45
    then option_map (λ n. neg_ℤ (pos n)) (natural_up_to (2 ^ 63) bs)
    else option_map pos (natural_up_to (2 ^ 63 - 1) (b ∷ bs))

-- in numbers, digits with a value below that of `forever`; in dates, the day of a date of the calendar
abbrev pub instant_of : Form → List ℕ → Option ℕ
instant_of Numbers bytes = natural_up_to (FOREVER - 1) bytes
instant_of Dates bytes = if is_date_text bytes then day_of (date_in bytes) else None

-- an instant, or `forever` in any ASCII case
abbrev pub bound_of : Form → List ℕ → Option ℕ
bound_of form bytes = if str_eq_ignore_ascii_case (codes "forever") bytes then Some FOREVER else instant_of form bytes

-- an instant in decimal; in dates the date of its day, up to 9999-12-31, and in decimal after that
abbrev pub instant_text : Form → ℕ → List ℕ
instant_text Numbers n = decimal n
instant_text Dates n = if nat_le n LAST_DAY then date_text (date_of n) else decimal n

-- the bound is a day that has a date, or `forever`
abbrev pub IsDated : ℕ → Type 0
IsDated bound = (bound ≤ LAST_DAY) ⊎ (bound ≡ FOREVER)

-- each day with a date is printed as text that is read as that day; each text that is read as a day is the text that is
-- printed for it; each bound that is read is a day with a date, or `forever`
abbrev pub DatesRoundTrip : Type 0
DatesRoundTrip =
    ((day : ℕ) → day ≤ LAST_DAY → instant_of Dates (instant_text Dates day) ≡ Some day)
    × ((bytes : List ℕ) (day : ℕ) → instant_of Dates bytes ≡ Some day → (day ≤ LAST_DAY) × (instant_text Dates day ≡ bytes))
    × ((bytes : List ℕ) (bound : ℕ) → bound_of Dates bytes ≡ Some bound → IsDated bound)
