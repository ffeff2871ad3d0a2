-- Messages about each invalid record of a file. This project's own.
use Rattle.std.specs.Prelude.{◌≡◌, ℕ, ◌+◌, ◌-◌, ◌==◌, Bool, false, if◌then◌else◌, List, [], ◌∷◌, ◌++◌, codes, decimal, drop, length, take, Option, Result, Ok, Err}
use Rattle.std.specs.List.{flat_map}
use Rattle.tq_base.specs.declared.catalogue.Column.{Column}
use Rattle.tq_base.specs.declared.form.Form.{Form}
use Rattle.tq_event.specs.Loading.{columns_of, csv_records}
use Rattle.tq_event.specs.declared.fault.LoadFaultKind.{LoadFaultKind}
use Rattle.tq_diagnostics.specs.Contents.{content_of}
use Rattle.tq_diagnostics.specs.Faults.{is_invalid}
use Rattle.tq_diagnostics.specs.Fields.{record_detail}
use Rattle.tq_diagnostics.specs.Files.{IsColumnIf, file_meaning, is_header_invalid}
use Rattle.tq_diagnostics.specs.Lines.{record_line}
use Rattle.tq_shown.specs.Printable.{printable_text}
use Rattle.tq_diagnostics.specs.Records.{line_text}

-- an invalid record, and its number, from 1
pub record InvalidRecord : Type 0 where
  pub number : ℕ
  pub fields : List (List ℕ)

-- the record with this number, if it is invalid
abbrev pub invalid_record : Form → List Column → ℕ → List (List ℕ) → List InvalidRecord
invalid_record form columns number fields = if is_invalid form columns fields then record { number = number; fields = fields } ∷ [] else []

-- the invalid ones of the records, of which the first has this number
abbrev pub invalid_records_from : Form → List Column → ℕ → List (List (List ℕ)) → List InvalidRecord
invalid_records_from form columns number [] = []
invalid_records_from form columns number (fields ∷ records) = invalid_record form columns number fields ++ invalid_records_from form columns (number + 1) records

-- the invalid records of a file
abbrev pub invalid_records_of : Form → List Column → List ℕ → List InvalidRecord
invalid_records_of form columns bytes = invalid_records_from form columns 2 (drop 1 (csv_records bytes))

-- a table, the number of one of its records, and the line on which it begins, if it is found
abbrev pub record_head : List ℕ → ℕ → Option ℕ → List ℕ
record_head name number line = printable_text name ++ codes " record " ++ decimal number ++ line_text line ++ codes ": "

-- the message for an invalid record with this number and line
abbrev pub record_fault_text : Form → List Column → List ℕ → ℕ → Option ℕ → List (List ℕ) → List ℕ
record_fault_text form columns name number line fields = record_head name number line ++ record_detail form columns fields ++ codes "\n"

-- the message for an invalid record of a file of these bytes
abbrev pub fault_text : Form → List Column → List ℕ → List ℕ → InvalidRecord → List ℕ
fault_text form columns name bytes fault = record_fault_text form columns name fault.number (record_line bytes fault.number) fault.fields

-- the text, or nothing
abbrev pub text_if : Bool → List ℕ → List ℕ
text_if reported text = if reported then text else []

-- the number of further invalid records, as text
abbrev pub unlisted_text : List ℕ → ℕ → List ℕ
unlisted_text name count =
    if count == 0 then []
    else (if count == 1 then printable_text name ++ codes ": 1 more record is invalid\n"
    else printable_text name ++ codes ": " ++ decimal count ++ codes " more records are invalid\n")

-- the messages for the first hundred invalid records, and the number of the others
abbrev pub faults_text : Form → List Column → List ℕ → List ℕ → List InvalidRecord → List ℕ
faults_text form columns name bytes faults =
    flat_map (fault_text form columns name bytes) (take 100 faults) ++ unlisted_text name (length faults - 100)

-- the message for a header with a fault of this kind, given the text of its first invalid column
abbrev pub header_text : List ℕ → List ℕ → LoadFaultKind → List ℕ → List ℕ
header_text name bytes kind column = record_head name 1 (record_line bytes 1) ++ column ++ file_meaning false (content_of bytes) kind ++ codes "\n"

-- The messages for the invalid records of a file, by the columns of its header; if that is invalid, the message for the
-- header.
abbrev pub IsRecordsUnder : Form → List ℕ → List ℕ → Result (List Column) LoadFaultKind → List ℕ → Type 0
IsRecordsUnder form name bytes (Ok columns) text = text ≡ faults_text form columns name bytes (invalid_records_of form columns bytes)
IsRecordsUnder form name bytes (Err kind) text =
    (column : List ℕ) × IsColumnIf (is_header_invalid kind bytes 1) bytes column × (text ≡ header_text name bytes kind column)

-- The messages for the invalid records of a file of these bytes, for the table of this name.
abbrev pub IsRecordsText : Form → List ℕ → List ℕ → List ℕ → Type 0
IsRecordsText form name bytes text = IsRecordsUnder form name bytes (columns_of bytes) text
