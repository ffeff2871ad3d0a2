-- The message for the fault of a file. This project's own.
use Rattle.std.specs.Prelude.{◌≡◌, ℕ, ◌==◌, ◌&&◌, nat_lt, Bool, true, false, if◌then◌else◌, List, [], ◌++◌, codes, Option, None, Some, IfSome, Result, Ok, Err}
use Rattle.std.specs.Str.{bytes_eq}
use Rattle.tq_base.specs.declared.catalogue.Column.{Column}
use Rattle.tq_base.specs.declared.form.Form.{Form}
use Rattle.tq_event.specs.Loading.{header_of}
use Rattle.tq_event.specs.declared.fault.LoadFault.{LoadFault}
use Rattle.tq_event.specs.declared.fault.LoadFaultKind.{LoadFaultKind}
use Rattle.tq_event.specs.declared.fault.LoadFaultKind.TheVariants.{BadHeader, BadInt, BadPeriod, DuplicateName, FieldCount, NotUtf8, OutOfMemory, TextTooLong, TooManyColumns, TooManyEvents, TooManyTables}
use Rattle.tq_diagnostics.specs.Contents.{content_of, is_plain}
use Rattle.tq_diagnostics.specs.declared.contents.Content.{Content}
use Rattle.tq_diagnostics.specs.declared.contents.Content.TheVariants.{Empty, Gzip, Plain, TwoMarks, Utf16, Zip}
use Rattle.tq_diagnostics.specs.Faults.{later_text}
use Rattle.tq_diagnostics.specs.Fields.{record_detail}
use Rattle.tq_diagnostics.specs.FileHints.{file_hints}
use Rattle.tq_diagnostics.specs.Headers.{IsColumn}
use Rattle.tq_shown.specs.Printable.{printable_text}
use Rattle.tq_diagnostics.specs.Records.{IsLine, line_text, record_of}

-- what is wrong with a record by the columns of a header, if that is valid
abbrev pub detail_under : Form → Result (List Column) LoadFaultKind → List (List ℕ) → List ℕ
detail_under form (Err kind) fields = []
detail_under form (Ok columns) fields = record_detail form columns fields

-- the same, if there are a header and the record
abbrev pub detail_of : Form → Option (List (List ℕ)) → Option (List (List ℕ)) → List ℕ
detail_of form None fields = []
detail_of form (Some header) None = []
detail_of form (Some header) (Some fields) = detail_under form (header_of header) fields

-- what is wrong with the record of a file with this number; record 0 is the file as a whole
abbrev pub record_meaning : Form → List ℕ → ℕ → List ℕ
record_meaning form bytes number = if number == 0 then [] else detail_of form (record_of bytes 1) (record_of bytes number)

-- whether a fault of this kind is one of a record's fields
abbrev pub is_of_fields : LoadFaultKind → Bool
is_of_fields BadHeader = false
is_of_fields DuplicateName = false
is_of_fields FieldCount = true
is_of_fields BadInt = true
is_of_fields TextTooLong = true
is_of_fields BadPeriod = true
is_of_fields NotUtf8 = true
is_of_fields TooManyTables = false
is_of_fields TooManyColumns = false
is_of_fields TooManyEvents = false
is_of_fields OutOfMemory = false

-- the message for a file that is not a table file
abbrev pub content_meaning : Content → List ℕ
content_meaning Plain = codes "write the header as NAME:int or NAME:text for each column, an int first, then from,to"
content_meaning TwoMarks = codes "the file begins with two byte order marks: remove one"
content_meaning Gzip = codes "the file is compressed: decompress it, as in `gunzip -c FILE | tq ask --table NAME=- ..`"
content_meaning Zip = codes "the file is a zip archive or a spreadsheet: save the table as CSV"
content_meaning Utf16 = codes "the file is in UTF-16: convert it, as in `iconv -f UTF-16 -t UTF-8 FILE | tq ask --table NAME=- ..`"
content_meaning Empty = codes "the file is empty: its first line is a header, such as emp:int,name:text,from,to"

-- the message for an invalid header: of the table's name, or of a file with this content
abbrev pub header_meaning : Bool → Content → List ℕ
header_meaning true content = codes "a table name is a letter or _, then letters, digits or _, at most 64 in all, and not a reserved word"
header_meaning false content = content_meaning content

-- the message for two equal names: of tables, or of columns
abbrev pub names_meaning : Bool → List ℕ
names_meaning true = codes "two tables have the same name"
names_meaning false = codes "two columns have the same name"

-- the message for every other fault; for names, whether it is about the table's
abbrev pub file_meaning : Bool → Content → LoadFaultKind → List ℕ
file_meaning named content BadHeader = header_meaning named content
file_meaning named content DuplicateName = names_meaning named
file_meaning named content FieldCount = []
file_meaning named content BadInt = []
file_meaning named content TextTooLong = []
file_meaning named content BadPeriod = []
file_meaning named content NotUtf8 = []
file_meaning named content TooManyTables = codes "there are more than 16 tables"
file_meaning named content TooManyColumns = codes "there are more than 16 columns before from,to"
file_meaning named content TooManyEvents = codes "with this row there are more than 16,777,216 starts and ends"
file_meaning named content OutOfMemory = codes "out of memory"

-- whether a fault of this kind can be one of a header
abbrev pub is_of_header : LoadFaultKind → Bool
is_of_header BadHeader = true
is_of_header DuplicateName = true
is_of_header FieldCount = false
is_of_header BadInt = false
is_of_header TextTooLong = false
is_of_header BadPeriod = false
is_of_header NotUtf8 = false
is_of_header TooManyTables = false
is_of_header TooManyColumns = false
is_of_header TooManyEvents = false
is_of_header OutOfMemory = false

-- whether it is the header's, and the file may be a table file
abbrev pub is_header_invalid : LoadFaultKind → List ℕ → ℕ → Bool
is_header_invalid kind bytes number = is_of_header kind && nat_lt 0 number && is_plain (content_of bytes)

-- the first field of a header that is not a valid column, as text, if there is a header
abbrev pub IsColumnOf : Option (List (List ℕ)) → List ℕ → Type 0
IsColumnOf None text = text ≡ []
IsColumnOf (Some fields) text = IsColumn fields text

-- the same if the header is invalid, else nothing
abbrev pub IsColumnIf : Bool → List ℕ → List ℕ → Type 0
IsColumnIf false bytes text = text ≡ []
IsColumnIf true bytes text = IsColumnOf (record_of bytes 1) text

-- the message for a fault of this kind in the record with this number of a file of these bytes
abbrev pub meaning_of : LoadFaultKind → Form → List ℕ → ℕ → List ℕ
meaning_of kind form bytes number =
    if is_of_fields kind then record_meaning form bytes number else file_meaning (number == 0) (content_of bytes) kind

-- a path as it is shown; `-` is standard input
abbrev pub path_text : List ℕ → List ℕ
path_text path = if bytes_eq path (codes "-") then codes "standard input" else printable_text path

-- The message for a fault of the file at a path: the path, the line on which the invalid record begins, if it is found,
-- the first invalid column of a header, what is wrong, and, for a fault of a record's fields, the number of later
-- invalid records. Then hints.
abbrev pub IsFileDetail : Form → List ℕ → List ℕ → LoadFault → List ℕ → Type 0
IsFileDetail form path bytes fault text =
    (line : Option ℕ) × IfSome line (IsLine bytes fault.number)
    × ((column : List ℕ) × IsColumnIf (is_header_invalid fault.kind bytes fault.number) bytes column
    × (text ≡ codes "  " ++ path_text path ++ line_text line ++ codes ": " ++ column ++ meaning_of fault.kind form bytes fault.number
    ++ later_text (is_of_fields fault.kind) form bytes fault.number ++ codes "\n"
    ++ file_hints (is_header_invalid fault.kind bytes fault.number) fault.kind form bytes fault.number))
