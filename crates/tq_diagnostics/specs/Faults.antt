-- The invalid records of a file, and their number. This project's own.
use Rattle.std.specs.Prelude.{ℕ, ◌==◌, ◌&&◌, nat_lt, not, Bool, if◌then◌else◌, List, [], ◌++◌, codes, count_by, decimal, drop, is_ok, Result, Ok, Err}
use Rattle.tq_base.specs.declared.catalogue.Column.{Column}
use Rattle.tq_base.specs.declared.form.Form.{Form}
use Rattle.tq_event.specs.Loading.{columns_of, csv_records, entry_of}
use Rattle.tq_event.specs.declared.fault.LoadFaultKind.{LoadFaultKind}

-- whether a record is not a valid row of a table of these columns; the table's number does not matter
abbrev pub is_invalid : Form → List Column → List (List ℕ) → Bool
is_invalid form columns fields = not (is_ok (entry_of form 0 columns fields))

-- 1 if the record is invalid and is to be counted, else 0
abbrev pub invalid_count : Bool → Bool → ℕ
invalid_count counts faulty = if counts && faulty then 1 else 0

-- the number of invalid records of a file after the one with this number, from 1
abbrev pub invalid_after : Form → List Column → List ℕ → ℕ → ℕ
invalid_after form columns bytes number = count_by (is_invalid form columns) (drop number (csv_records bytes))

-- the number of further invalid records, as text
abbrev pub more_text : ℕ → List ℕ
more_text count =
    if count == 0 then []
    else (if count == 1 then codes ", and 1 more record is invalid" else codes ", and " ++ decimal count ++ codes " more records are invalid")

-- the number of invalid records after the one with this number, by the columns of the file's header, if that is valid
abbrev pub later_text_under : Form → List ℕ → ℕ → Result (List Column) LoadFaultKind → List ℕ
later_text_under form bytes number (Err kind) = []
later_text_under form bytes number (Ok columns) = more_text (invalid_after form columns bytes number)

-- the same if the fault is one of a record's fields; record 0 is the file as a whole
abbrev pub later_text : Bool → Form → List ℕ → ℕ → List ℕ
later_text of_fields form bytes number = if of_fields && nat_lt 0 number then later_text_under form bytes number (columns_of bytes) else []
