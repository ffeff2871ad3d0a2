-- The lines on which the records of a file begin. This project's own; records begin and end as the `csv` crate reads
-- them.
use Rattle.std.specs.Prelude.{ℕ, ◌+◌, ◌-◌, ◌==◌, ◌&&◌, ◌||◌, not, Bool, true, false, if◌then◌else◌, List, [], ◌∷◌, ◌++◌, Option, drop, slice_get}
use Rattle.csv.specs.Machine.{step}
use Rattle.csv.specs.Reading.{default_config, strip_bom}
use Rattle.csv.specs.declared.parser.State.{State}
use Rattle.csv.specs.declared.parser.State.TheVariants as st
use Rattle.tq_diagnostics.specs.Records.{is_feed}
use Rattle.tq_diagnostics.specs.declared.lines.ReaderState.{ReaderState}
use Rattle.tq_diagnostics.specs.declared.lines.ReaderState.TheVariants as at
use Rattle.tq_diagnostics.specs.declared.lines.LineScanner.{LineScanner}

-- whether the reader is between two records in this state
abbrev pub is_between : State → Bool
is_between st.StartRecord = true
is_between st.AfterCr = true
is_between st.StartField = false
is_between st.InField = false
is_between st.InQuoted = false
is_between st.AfterQuote = false
is_between st.InEscape = false
is_between st.InComment = false

abbrev pub is_line_end : ℕ → Bool
is_line_end byte = (byte == 10) || (byte == 13)

-- whether a record begins with the byte, if the reader is in this state before it
abbrev pub begins_record : State → ℕ → Bool
begins_record state byte = is_between state && not (is_line_end byte)

-- the line of the next byte
abbrev pub line_after_byte : ℕ → ℕ → ℕ
line_after_byte line byte = if is_feed byte then line + 1 else line

-- the line if a record begins with the byte, else nothing
abbrev pub line_if_start : Bool → ℕ → List ℕ
line_if_start begins line = if begins then line ∷ [] else []

-- the lines on which records begin among the bytes; the first byte is on this line, and the reader is in this state
-- before it
abbrev pub lines_from : State → ℕ → List ℕ → List ℕ
lines_from state line [] = []
lines_from state line (byte ∷ bytes) =
    line_if_start (begins_record state byte) line ++ lines_from (step default_config state byte).0 (line_after_byte line byte) bytes

-- the lines on which the records of a file begin, in order
unfoldable pub record_lines : List ℕ → List ℕ
record_lines bytes = lines_from st.StartRecord 1 (strip_bom bytes)

-- the line on which the record with this number, from 1, begins
abbrev pub record_line : List ℕ → ℕ → Option ℕ
record_line bytes number = slice_get (record_lines bytes) (number - 1)

-- ---- a scan over the bytes

-- the state of the `csv` machine
abbrev pub state_of : ReaderState → State
state_of at.Record = st.StartRecord
state_of at.Field = st.StartField
state_of at.InField = st.InField
state_of at.InQuotes = st.InQuoted
state_of at.PastQuote = st.AfterQuote
state_of at.PastReturn = st.AfterCr

-- the lines on which records begin from a scan's place on
abbrev pub lines_left : List ℕ → LineScanner → List ℕ
lines_left bytes scanner = lines_from (state_of scanner.reader_state) scanner.line (drop scanner.place bytes)
