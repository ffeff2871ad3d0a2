-- The place of a record in a file. This project's own; records are those of the `csv` crate.
use Rattle.std.specs.Prelude.{◌≡◌, ℕ, ◌+◌, ◌-◌, ◌==◌, Bool, List, [], ◌++◌, codes, count_by, decimal, slice_get, take, Option, None, Some, IsSome}
use Rattle.tq_event.specs.Loading.{csv_records}

-- the record with this number, from 1
abbrev pub record_of : List ℕ → ℕ → Option (List (List ℕ))
record_of bytes number = slice_get (csv_records bytes) (number - 1)

-- The record with this number begins at this byte: the bytes before it do not have such a record, and the bytes up to
-- and including it do.
pub record Begins (bytes : List ℕ) (number place : ℕ) : Type 0 where
  pub before : record_of (take place bytes) number ≡ None
  pub after : IsSome (record_of (take (place + 1) bytes) number)

abbrev pub is_feed : ℕ → Bool
is_feed byte = byte == 10

-- the line of a byte, as an editor counts: the first line is 1, and each ends with a line feed
abbrev pub line_at : List ℕ → ℕ → ℕ
line_at bytes place = count_by is_feed (take place bytes) + 1

-- the line on which the record with this number begins
abbrev pub IsLine : List ℕ → ℕ → ℕ → Type 0
IsLine bytes number line = (place : ℕ) × Begins bytes number place × (line ≡ line_at bytes place)

-- a line as it is shown, if there is one
abbrev pub line_text : Option ℕ → List ℕ
line_text None = []
line_text (Some line) = codes ", line " ++ decimal line
