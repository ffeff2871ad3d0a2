-- How numbers are written as amounts, with digits after a point.
use Rattle.std.specs.Prelude.{ℕ, ◌+◌, ◌-◌, ◌/◌, ◌%◌, ◌^◌, ◌==◌, ℤ, pos, negsuc, if◌then◌else◌, List, ◌∷◌, ◌++◌, decimal, length, replicate, slice_index_or}
use Rattle.std.specs.Fmt.{signed_decimal}

-- the number of digits after the point in a column; a column beyond the list has none
abbrev pub places_at : List ℕ → ℕ → ℕ
places_at places column = slice_index_or places column 0

-- a number in decimal, with zeros in front up to this many digits
abbrev pub with_zeros : ℕ → ℕ → List ℕ
with_zeros places number = replicate (places - length (decimal number)) 48 ++ decimal number

-- a number of units of 10^-places: the whole part, a point, and exactly `places` digits
abbrev pub size_text : ℕ → ℕ → List ℕ
size_text places size = decimal (size / 10 ^ places) ++ 46 ∷ with_zeros places (size % 10 ^ places)

abbrev pub amount_text : ℕ → ℤ → List ℕ
amount_text places (pos size) = size_text places size
amount_text places (negsuc size) = 45 ∷ size_text places (size + 1)

-- a number in decimal with all its digits, or an amount if there are digits after the point
abbrev pub number_text : ℕ → ℤ → List ℕ
number_text places number = if places == 0 then signed_decimal number else amount_text places number
