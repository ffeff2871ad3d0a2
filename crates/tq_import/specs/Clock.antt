-- Times of days, as seconds since 1970-01-01 00:00:00. This project's own.
use Rattle.std.specs.Prelude.{ℕ, ◌+◌, ◌-◌, ◌*◌, ◌==◌, ◌&&◌, ◌||◌, Bool, nat_lt, if◌then◌else◌, List, drop, length, take, slice_index, slice_range, Option, Some, None, option_map}
use Rattle.std.specs.Option.{option_and_then}
use Rattle.tq_base.specs.Numbers.{natural_up_to}
use Rattle.tq_import.specs.Dates.{day_in}

-- whether the bytes have the form of a time: a space or `T`, then `HH:MM` or `HH:MM:SS`, whatever the digits are
abbrev pub has_time_form : List ℕ → Bool
has_time_form bytes =
    ((length bytes == 6) || ((length bytes == 9) && (slice_index bytes 6 == 58)))
    && ((slice_index bytes 0 == 32) || (slice_index bytes 0 == 84)) && (slice_index bytes 3 == 58)

-- the seconds after the minute; 0 if the time ends with the minute
abbrev pub seconds_of : List ℕ → Option ℕ
seconds_of bytes = if length bytes == 9 then natural_up_to 59 (slice_range bytes 7 9) else Some 0

-- the seconds since midnight of a time of this form
abbrev pub clock_in : List ℕ → Option ℕ
clock_in bytes =
    option_and_then (λ hours. option_and_then (λ minutes. option_map (λ seconds. hours * 3600 + minutes * 60 + seconds) (seconds_of bytes))
    (natural_up_to 59 (slice_range bytes 4 6))) (natural_up_to 23 (slice_range bytes 1 3))

-- the seconds since midnight of the bytes after a date: a time, or none for midnight
abbrev pub time_in : List ℕ → Option ℕ
time_in bytes = if length bytes == 0 then Some 0 else if has_time_form bytes then clock_in bytes else None

-- the seconds from 1970-01-01 00:00:00 to a time of a day from then on
abbrev pub since_1970 : ℕ → ℕ → Option ℕ
since_1970 day time = if nat_lt day 719162 then None else Some ((day - 719162) * 86400 + time)

-- the seconds from 1970-01-01 00:00:00 to a date that is written in the format, perhaps with a time
abbrev pub second_in : List ℕ → List ℕ → Option ℕ
second_in format bytes =
    if nat_lt (length bytes) (length format) then None
    else option_and_then (λ day. option_and_then (λ time. since_1970 day time) (time_in (drop (length format) bytes))) (day_in format (take (length format) bytes))
