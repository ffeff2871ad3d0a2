-- A quote that a file opens and does not close. This project's own; quotes open and close as the `csv` crate reads them.
use Rattle.std.specs.Prelude.{ℕ, ◌+◌, ◌==◌, ◌&&◌, not, Bool, true, false, if◌then◌else◌, List, [], ◌∷◌, ◌++◌, codes, decimal}
use Rattle.csv.specs.Machine.{step}
use Rattle.csv.specs.Reading.{default_config, strip_bom}
use Rattle.csv.specs.declared.parser.State.{State}
use Rattle.csv.specs.declared.parser.State.TheVariants as st
use Rattle.tq_diagnostics.specs.Lines.{line_after_byte}

-- whether the reader is between an opening quote and the one that closes it
abbrev pub is_in_quotes : State → Bool
is_in_quotes st.InQuoted = true
is_in_quotes st.StartRecord = false
is_in_quotes st.AfterCr = false
is_in_quotes st.StartField = false
is_in_quotes st.InField = false
is_in_quotes st.AfterQuote = false
is_in_quotes st.InEscape = false
is_in_quotes st.InComment = false

-- whether the reader is in a quoted field, perhaps after a quote that can be doubled
abbrev pub is_in_quoted_field : State → Bool
is_in_quoted_field st.InQuoted = true
is_in_quoted_field st.AfterQuote = true
is_in_quoted_field st.StartRecord = false
is_in_quoted_field st.AfterCr = false
is_in_quoted_field st.StartField = false
is_in_quoted_field st.InField = false
is_in_quoted_field st.InEscape = false
is_in_quoted_field st.InComment = false

-- whether the byte is a quote that begins a field, if the reader is in this state before it
abbrev pub opens_quote : State → ℕ → Bool
opens_quote state byte = not (is_in_quoted_field state) && is_in_quotes (step default_config state byte).0

-- the line of the last opening quote, given the one before the byte and the line of the byte
abbrev pub opened_after : State → ℕ → ℕ → ℕ → ℕ
opened_after state line opened byte = if opens_quote state byte then line else opened

-- the line of the quote that is open after the bytes, or 0: the first byte is on this line, the reader is in this state
-- before it, and the last opening quote is on that line
abbrev pub open_quote_from : State → ℕ → ℕ → List ℕ → ℕ
open_quote_from state line opened [] = if is_in_quotes state then opened else 0
open_quote_from state line opened (byte ∷ bytes) =
    open_quote_from (step default_config state byte).0 (line_after_byte line byte) (opened_after state line opened byte) bytes

-- the line of the quote that is still open at the end of a file, or 0 if none is
unfoldable pub open_quote_line : List ℕ → ℕ
open_quote_line bytes = open_quote_from st.StartRecord 1 0 (strip_bom bytes)

abbrev pub open_quote_text : ℕ → List ℕ
open_quote_text line = codes "  the quote that is opened on line " ++ decimal line ++ codes " is not closed\n"

-- the message for it, if there is one
abbrev pub quote_text : ℕ → List ℕ
quote_text line = if line == 0 then [] else open_quote_text line
