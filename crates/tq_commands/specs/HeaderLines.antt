-- The header line of a table's file: its first line that is not empty. This project's own.
use Rattle.std.specs.Prelude.{ℕ, Bool, ◌==◌, ◌||◌, not, List, drop, take}
use Rattle.std.specs.List.{prefix_len}
use Rattle.tq_event.specs.declared.file.TableFile.{TableFile}

-- a line feed or a carriage return
abbrev pub is_line_end : ℕ → Bool
is_line_end byte = byte == 10 || byte == 13

abbrev pub is_in_line : ℕ → Bool
is_in_line byte = not (is_line_end byte)

-- the bytes without the empty lines at the start
abbrev pub lines_of : List ℕ → List ℕ
lines_of bytes = drop (prefix_len is_line_end bytes) bytes

-- the first line that is not empty
abbrev pub header_line : List ℕ → List ℕ
header_line bytes = take (prefix_len is_in_line (lines_of bytes)) (lines_of bytes)

-- a table's name, with a file that has only the header line
abbrev pub header_file : TableFile → TableFile
header_file file = record { name = file.name; bytes = header_line file.bytes }
