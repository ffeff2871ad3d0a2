-- Keys of rows, and ranges of keys. This project's own.
use Rattle.std.specs.Prelude.{ℤ, pos, ◌≤ℤ◌, int_le, Bool, false, ◌&&◌, List, [], ◌∷◌, Option, IsSomeAnd}
use Rattle.tq_base.specs.declared.value.Value.{Value}
use Rattle.tq_base.specs.declared.key_range.KeyRange.{KeyRange}
use Rattle.tq_base.specs.Contents.{Int, Text}

-- the key of a row with these values: the first value if it is a number, else 0
abbrev pub key_of : List Value → ℤ
key_of [] = pos 0
key_of (Int n ∷ values) = n
key_of (Text t ∷ values) = pos 0

-- the key is in the range
abbrev pub IsInRange : KeyRange → ℤ → Type 0
IsInRange range key = (range.low ≤ℤ key) × (key ≤ℤ range.high)

-- whether the value is a number in the range
abbrev pub is_number_in : KeyRange → Value → Bool
is_number_in range (Int n) = int_le range.low n && int_le n range.high
is_number_in range (Text t) = false

-- there is a range, and the key is in it
abbrev pub IsInSomeRange : Option KeyRange → ℤ → Type 0
IsInSomeRange range key = IsSomeAnd range (λ r. IsInRange r key)
