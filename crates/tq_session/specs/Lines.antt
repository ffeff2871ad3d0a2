-- The lines of a session's input. This project's own.
use Rattle.std.specs.Prelude.{◌≡◌, ◌≢◌, ℕ, ◌==◌, if◌then◌else◌, List, [], ◌∷◌, ◌++◌, Bool, true, false, All}

-- a line: its bytes without a line feed, and whether a line feed ends it
pub record Line : Type 0 where
  pub bytes : List ℕ
  pub ended : Bool

-- a line with a line feed
abbrev pub ended_line : List ℕ → Line
ended_line bytes = record { bytes = bytes; ended = true }

-- the last line, without a line feed
abbrev pub open_line : List ℕ → Line
open_line bytes = record { bytes = bytes; ended = false }

-- the lines with one more byte at the start of the first line
abbrev pub prepend_byte : ℕ → List Line → List Line
prepend_byte byte [] = open_line (byte ∷ []) ∷ []
prepend_byte byte (line ∷ lines) = record { bytes = byte ∷ line.bytes; ended = line.ended } ∷ lines

-- the lines of the bytes: each line feed ends one, and bytes after the last line feed are one more
unfoldable pub lines_of : List ℕ → List Line
lines_of [] = []
lines_of (byte ∷ bytes) = if byte == 10 then ended_line [] ∷ lines_of bytes else prepend_byte byte (lines_of bytes)

-- the lines with a line feed
unfoldable pub ended_lines : List Line → List Line
ended_lines [] = []
ended_lines (line ∷ lines) = if line.ended then line ∷ ended_lines lines else ended_lines lines

-- there is no line feed
abbrev pub HasNoFeed : List ℕ → Type 0
HasNoFeed bytes = All (λ byte. byte ≢ 10) bytes

-- all bytes of the line, with its line feed
abbrev pub line_bytes : Line → List ℕ
line_bytes line = if line.ended then line.bytes ++ 10 ∷ [] else line.bytes

-- the bytes without a carriage return at the end
unfoldable pub without_return : List ℕ → List ℕ
without_return [] = []
without_return (byte ∷ []) = if byte == 13 then [] else byte ∷ []
without_return (byte ∷ next ∷ bytes) = byte ∷ without_return (next ∷ bytes)

-- the content of a line: without a carriage return before its line feed
abbrev pub line_content : Line → List ℕ
line_content line = if line.ended then without_return line.bytes else line.bytes

-- the maximal length of a line, without its line feed, but with a carriage return before it
abbrev pub max_line : ℕ
max_line = 70000

-- the bytes are exactly these lines: whatever follows begins a new line
abbrev pub SplitsLines : List ℕ → List Line → Type 0
SplitsLines done lines = (rest : List ℕ) → lines_of (done ++ rest) ≡ lines ++ lines_of rest
