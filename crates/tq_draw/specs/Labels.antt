-- Names and values as a picture shows them. This project's own.
use Rattle.std.specs.Prelude.{ℕ, zero, suc, Bool, true, false, ◌&&◌, ◌+◌, ◌-◌, ◌/◌, ◌%◌, ◌==◌, nat_le, nat_lt, if◌then◌else◌, List, [], ◌∷◌, ◌++◌, length, replicate, slice_index}
use Rattle.std.specs.Fmt.{take_chars}
use Rattle.std.specs.List.{flat_map, range_with_len}
use Rattle.std.specs.Str.{chars, is_utf8}
use Rattle.tq_draw.specs.declared.labels.TheConstants.{LABEL}
use Rattle.tq_shown.specs.Printable.{hidden_len}
use Rattle.unicode_width.specs.Width.{str_width}

-- `0` to `9` and `a` to `f`
abbrev pub hex_digit : ℕ → ℕ
hex_digit digit = if nat_lt digit 10 then 48 + digit else 87 + digit

-- how a byte is shown. A byte of a hidden character, of which `hidden` bytes are left with this one, is `\x` and two
-- hexadecimal digits. Otherwise a backslash is doubled, and every other byte stays as it is.
abbrev pub escaped_byte : ℕ → ℕ → List ℕ
escaped_byte hidden byte =
    if nat_lt 0 hidden
    then 92 ∷ 120 ∷ hex_digit (byte / 16) ∷ hex_digit (byte % 16) ∷ []
    else (if byte == 92 then 92 ∷ 92 ∷ [] else byte ∷ [])

-- the bytes left of a hidden character: `hidden`, or those of one that begins here
abbrev pub hidden_left : ℕ → List ℕ → ℕ
hidden_left hidden bytes = if hidden == 0 then hidden_len bytes else hidden

-- the same in a text with lines, whose line feeds stay
abbrev pub shown_byte : Bool → ℕ → ℕ → List ℕ
shown_byte has_lines hidden byte = if has_lines && (byte == 10) then byte ∷ [] else escaped_byte hidden byte

-- the bytes as they are shown, if the first `hidden` of them are the rest of a hidden character
abbrev pub escaped_after : Bool → ℕ → List ℕ → List ℕ
escaped_after has_lines hidden [] = []
escaped_after has_lines hidden (byte ∷ bytes) =
    shown_byte has_lines (hidden_left hidden (byte ∷ bytes)) byte
    ++ escaped_after has_lines (hidden_left hidden (byte ∷ bytes) - 1) bytes

-- the bytes of a text as they are shown
abbrev pub escaped_text : List ℕ → List ℕ
escaped_text bytes = escaped_after false 0 bytes

-- the bytes of a text with lines as they are shown
abbrev pub escaped_lines : List ℕ → List ℕ
escaped_lines bytes = escaped_after true 0 bytes

-- the columns that a text takes in a terminal (Unicode Standard Annex 11). Bytes that are not UTF-8 take one each; names
-- and values are UTF-8.
unfoldable pub columns_in : List ℕ → ℕ
columns_in bytes = if is_utf8 bytes then str_width false (chars bytes) else length bytes

-- the longest front of a text that has at most this many characters and takes fewer than 24 columns
unfoldable pub narrow_front : ℕ → List ℕ → List ℕ
narrow_front zero text = []
narrow_front (suc n) text = let front = take_chars (suc n) text in if nat_lt (columns_in front) LABEL then front else narrow_front n text

-- a text as it is shown: the whole text if it takes at most 24 columns, else a front of at most 23 characters and 23
-- columns, and `~`
abbrev pub label_of : List ℕ → List ℕ
label_of bytes = let text = escaped_text bytes in
    if nat_le (columns_in text) LABEL then text else narrow_front (LABEL - 1) text ++ 126 ∷ []

-- a label, filled with spaces up to the width
abbrev pub filled : ℕ → List ℕ → List ℕ
filled width label = label ++ replicate (width - columns_in label) 32

-- the label of a column, filled up to its width, and two spaces
abbrev pub column_text : ℕ → List ℕ → List ℕ
column_text width label = filled width label ++ 32 ∷ 32 ∷ []

-- the same for the column with this number
abbrev pub column_at : List ℕ → (ℕ → List ℕ) → ℕ → List ℕ
column_at widths label_at column = column_text (slice_index widths column) (label_at column)

-- the label of each column, filled up to its width
abbrev pub columns_text : List ℕ → (ℕ → List ℕ) → List ℕ
columns_text widths label_at = flat_map (column_at widths label_at) (range_with_len 0 (length widths))
