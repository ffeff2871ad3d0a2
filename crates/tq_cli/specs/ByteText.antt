-- The words of a command line as text.
use Rattle.std.specs.Prelude.{ℕ, nat_lt, if◌then◌else◌}

-- The byte with the number of a character; a question mark for a character after 255. (This project's own.)
abbrev pub byte_of : ℕ → ℕ
byte_of c = if nat_lt c 256 then c else 63
