-- A line of a text, with a caret below one of its characters. This project's own.
use Rattle.std.specs.Prelude.{ℕ, ◌+◌, ◌-◌, Bool, ◌==◌, nat_lt, not, if◌then◌else◌, List, [], ◌∷◌, ◌++◌, codes, count_by, drop, min, take}
use Rattle.std.specs.Fmt.{is_char_start}
use Rattle.std.specs.List.{flat_map, fold, prefix_len}
use Rattle.tq_shown.specs.Printable.{printable_text}

-- every byte but a line feed
abbrev pub is_in_line : ℕ → Bool
is_in_line byte = not (byte == 10)

-- a line, and one more byte: after a line feed the next line begins
abbrev pub line_after : List ℕ → ℕ → List ℕ
line_after line byte = if byte == 10 then [] else line ++ byte ∷ []

-- the bytes after the last line feed
abbrev pub last_line : List ℕ → List ℕ
last_line bytes = fold line_after [] bytes

-- the bytes before the first line feed
abbrev pub first_line : List ℕ → List ℕ
first_line bytes = take (prefix_len is_in_line bytes) bytes

-- a tab below a tab, a space below every other character
abbrev pub blank_byte : ℕ → List ℕ
blank_byte byte = if byte == 9 then 9 ∷ [] else (if is_char_start byte then 32 ∷ [] else [])

-- the number of characters
abbrev pub char_count : List ℕ → ℕ
char_count bytes = count_by is_char_start bytes

-- the length in bytes of the first n characters
abbrev pub chars_len : ℕ → List ℕ → ℕ
chars_len count [] = 0
chars_len count (byte ∷ bytes) = if is_char_start byte then (if count == 0 then 0 else 1 + chars_len (count - 1) bytes) else 1 + chars_len count bytes

-- the first n characters, or all if there are fewer
abbrev pub first_chars : ℕ → List ℕ → List ℕ
first_chars count bytes = take (chars_len count bytes) bytes

-- the last n characters, or all if there are fewer
abbrev pub last_chars : ℕ → List ℕ → List ℕ
last_chars count bytes = if nat_lt count (char_count bytes) then drop (chars_len (char_count bytes - count) bytes) bytes else bytes

-- the number of characters that are shown on one side of a place, given those on each side: half of 72, and more if the
-- other side has fewer
abbrev pub shown_count : ℕ → ℕ → ℕ
shown_count here there = min here (72 - min there 36)

-- the mark if some characters are not shown
abbrev pub ellipsis_if : ℕ → List ℕ → List ℕ → List ℕ
ellipsis_if count bytes mark = if nat_lt count (char_count bytes) then mark else []

-- what is shown of a line: n characters before a place, and m from it on, with two dots at each cut end
abbrev pub window : ℕ → ℕ → List ℕ → List ℕ → List ℕ
window before after front rest =
    codes "  " ++ ellipsis_if before front (codes "..") ++ printable_text (last_chars before front)
    ++ printable_text (first_chars after rest) ++ ellipsis_if after rest (codes "..") ++ codes "\n"

-- a caret after the n characters that are shown before it
abbrev pub caret : ℕ → List ℕ → List ℕ
caret before front = codes "  " ++ ellipsis_if before front (codes "  ") ++ flat_map blank_byte (last_chars before front) ++ codes "^\n"

-- a line that is split at a place, with a caret below the place: the whole line, or of more than 72 characters those
-- around the place
abbrev pub pointed_between : List ℕ → List ℕ → List ℕ
pointed_between front rest =
    window (shown_count (char_count front) (char_count rest)) (shown_count (char_count rest) (char_count front)) front rest
    ++ caret (shown_count (char_count front) (char_count rest)) front

-- the line of the byte at a place, and a caret below that byte
unfoldable pub pointed : List ℕ → ℕ → List ℕ
pointed bytes at = pointed_between (last_line (take at bytes)) (first_line (drop at bytes))
