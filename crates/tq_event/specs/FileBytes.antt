-- The bytes of several lists, one after the other. This project's own.
use Rattle.std.specs.Prelude.{ℕ, List, [], Option, None, Some}
use Rattle.std.specs.Global.{Vec}
use Rattle.std.specs.List.{flat_map}

-- all bytes of the lists
abbrev pub bytes_in : List (Vec ℕ) → List ℕ
bytes_in pieces = flat_map (λ (piece : Vec ℕ). piece.items) pieces

-- the same, or no bytes if there are no lists
abbrev pub optional_bytes_in : Option (Vec (Vec ℕ)) → List ℕ
optional_bytes_in None = []
optional_bytes_in (Some pieces) = bytes_in pieces.items
