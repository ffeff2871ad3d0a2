-- What a value is: a number or a text. This project's own.
use Rattle.std.specs.Prelude.{ℕ, zero, suc, ℤ, pos, negsuc, ◌^◌, nat_lt, nat_le, List, [], ◌∷◌, length, Bool}

-- a number, or the bytes of a text
pub data Content : Type 0 where
  Int : ℤ → Content
  Text : List ℕ → Content

-- a number of 64 signed bits or a text of at most 14 bytes: the value stores it without a box, and its prefix
-- determines it
abbrev pub has_exact_prefix : Content → Bool
has_exact_prefix (Int (pos n)) = nat_lt n (2 ^ 63)
has_exact_prefix (Int (negsuc n)) = nat_lt n (2 ^ 63)
has_exact_prefix (Text t) = nat_le (length t) 14

-- the first `places` bytes, padded with zeros
abbrev pub padded : ℕ → List ℕ → List ℕ
padded zero bytes = []
padded (suc places) [] = 0 ∷ padded places []
padded (suc places) (byte ∷ bytes) = byte ∷ padded places bytes
