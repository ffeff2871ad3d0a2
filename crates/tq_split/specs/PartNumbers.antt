-- The part that a value belongs to. Multiplication by the golden ratio after Knuth, The Art of Computer Programming,
-- volume 3, section 6.4. The rest is this project's own.
use Rattle.std.specs.Prelude.{ℕ, ◌+◌, ◌*◌, ◌/◌, ◌%◌, ◌^◌, ◌≤◌, ◌<◌, ℤ, List, [], ◌∷◌, unsigned_abs}
use Rattle.tq_base.specs.declared.value.Value.{Value}
use Rattle.tq_base.specs.Contents.{Int, Text}
use Rattle.tq_split.specs.declared.part_numbers.TheConstants.{BASE, GOLDEN}

-- the absolute value of a number, modulo 2^64
abbrev pub number_code : ℤ → ℕ
number_code number = unsigned_abs number % 2 ^ 64

-- the polynomial of the bytes after this value, modulo 2^64
abbrev pub text_code : ℕ → List ℕ → ℕ
text_code code [] = code
text_code code (byte ∷ bytes) = text_code ((code * BASE % 2 ^ 64 + byte) % 2 ^ 64) bytes

abbrev pub value_code : Value → ℕ
value_code (Int number) = number_code number
value_code (Text bytes) = text_code 0 bytes

-- the code times 2^64 divided by the golden ratio, modulo 2^64: consecutive codes are spread evenly
abbrev pub spread : ℕ → ℕ
spread code = code * GOLDEN % 2 ^ 64

-- the part in which a number of 64 bits lies, if their range is divided evenly into this many parts
abbrev pub scaled : ℕ → ℕ → ℕ
scaled parts hash = hash / 2 ^ 32 * parts / 2 ^ 32

-- the number of the part, from 0, that a value belongs to
abbrev pub part_number : ℕ → Value → ℕ
part_number parts value = scaled parts (spread (value_code value))

-- every value belongs to one of the parts
abbrev pub PartNumbersAreBelow : Type 0
PartNumbersAreBelow = (parts : ℕ) (value : Value) → 1 ≤ parts → part_number parts value < parts
