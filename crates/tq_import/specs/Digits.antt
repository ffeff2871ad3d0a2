-- Numbers that are read digit by digit. This project's own.
use Rattle.std.specs.Prelude.{ℕ, ◌&&◌, nat_le, if◌then◌else◌, List, Option, Some, None}
use Rattle.std.specs.Char.{is_ascii_digit}
use Rattle.std.specs.List.{list_all}
use Rattle.std.specs.Str.Parse.{digits_value_after}

-- the number that these digits write after those of n, if the bytes are digits and the whole number is at most the limit
abbrev pub natural_after : ℕ → ℕ → List ℕ → Option ℕ
natural_after limit n bytes =
    if list_all is_ascii_digit bytes && nat_le (digits_value_after 10 n bytes) limit then Some (digits_value_after 10 n bytes) else None
