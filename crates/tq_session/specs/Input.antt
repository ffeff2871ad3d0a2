-- The model of a session's input, and the effect of taking a line. This project's own.
use Rattle.std.specs.Prelude.{◌≡◌, ℕ, zero, suc, ◌+◌, ◌*◌, ◌-◌, ◌^◌, ◌<◌, ◌≤◌, List, [], ◌++◌, length, min, not, Option, true, false}
use Rattle.std.specs.Io.KnownBytes.{IsAtEnd}
use Rattle.tq_session.specs.Lines.{HasNoFeed, Line, line_bytes, max_line, line_content}
use Rattle.tq_session.specs.declared.input.Found.{Found}
use Rattle.tq_session.specs.declared.input.Found.TheVariants as found

-- bytes that were read and not consumed, the content of the current line, and the number of reads left
pub record InputState : Type 0 where
  pub unconsumed : List ℕ
  pub line : List ℕ
  pub left : ℕ

-- the line is the first of the unconsumed bytes and those taken; a line without a line feed is the last one, and is not
-- empty
pub record Takes (line : Line) (before taken after : List ℕ) : Type 0 where
  pub no_feed : HasNoFeed line.bytes
  pub is : before ++ taken ≡ line_bytes line ++ after
  pub last : line.ended ≡ false → after ≡ []
  pub some : line.ended ≡ false → 0 < length line.bytes

-- what is found: the next line, complete or too long, and whether it is the last one, which has no line feed; or the
-- end, if no bytes are left
abbrev pub IsFound : InputState → InputState → List ℕ → Option (List ℕ) → Found → Type 0
IsFound before after taken rest (found.Line last) =
    (line : Line) × Takes line before.unconsumed taken after.unconsumed × (length line.bytes ≤ max_line) × (after.line ≡ line_content line)
    × (line.ended ≡ not last) × (last ≡ true → IsAtEnd rest)
IsFound before after taken rest (found.TooLong last) =
    (line : Line) × Takes line before.unconsumed taken after.unconsumed × (max_line < length line.bytes)
    × (line.ended ≡ not last) × (last ≡ true → IsAtEnd rest)
IsFound before after taken rest found.End = (before.unconsumed ++ taken ≡ []) × (after.unconsumed ≡ []) × IsAtEnd rest

-- the maximal number of bytes of a read
abbrev pub max_read : ℕ
max_read = 65536

-- the maximal number of bytes that may still be found: those read, and those of the reads left
abbrev pub max_remaining : InputState → ℕ
max_remaining state = max_read * state.left + length state.unconsumed

-- no line ends in the bytes read: a read failed, or no read is left
abbrev pub IsCutOff : InputState → List ℕ → Type 0
IsCutOff before taken = HasNoFeed (before.unconsumed ++ taken)

-- a count of reads after `more` reads; it stays at 2^64 - 1
abbrev pub reads_after : ℕ → ℕ → ℕ
reads_after reads zero = reads
reads_after reads (suc more) = min (reads + suc more) (2 ^ 64 - 1)
