-- What an exported file becomes: the text of a table file, or the first fault. This project's own.
use Rattle.std.specs.Prelude.{◌≡◌, ℕ, ◌+◌, Bool, false, true, if◌then◌else◌, List, [], ◌∷◌, ◌++◌, codes, length, map, Option, Result, Ok, Err}
use Rattle.std.specs.Io.KnownBytes.{Appends}
use Rattle.csv.specs.Writing.{row_text}
use Rattle.csv.specs.declared.reader.Reader.{Reader}
use Rattle.tq_base.specs.Results.{and_then}
use Rattle.tq_table.specs.Text.{answer_format}
use Rattle.tq_import.specs.declared.fault.InputFault.{InputFault}
use Rattle.tq_import.specs.declared.fault.InputFault.TheVariants as input
use Rattle.tq_import.specs.declared.fault.ImportFault.{ImportFault}
use Rattle.tq_import.specs.declared.fault.ImportFault.TheVariants as import
use Rattle.tq_import.specs.declared.fault.RecordFault.{RecordFault}
use Rattle.tq_import.specs.declared.fault.NumberedFault.{NumberedFault}
use Rattle.tq_import.specs.declared.plan.Conversion.{Conversion}
use Rattle.tq_import.specs.declared.plan.Conversion.TheVariants.{Number, Text}
use Rattle.tq_import.specs.declared.plan.PlannedColumn.{PlannedColumn}
use Rattle.tq_import.specs.declared.plan.Plan.{Plan}
use Rattle.tq_import.specs.declared.part.Imported.{Imported}
use Rattle.tq_import.specs.declared.part.Part.{Part}
use Rattle.tq_import.specs.Reading.{HasLeft}
use Rattle.tq_import.specs.Records.{import_record}

-- ---- the header

abbrev pub kind_word : Conversion → List ℕ
kind_word (Number places) = codes ":int"
kind_word Text = codes ":text"

-- `NAME:int` or `NAME:text`
abbrev pub column_field : PlannedColumn → List ℕ
column_field column = column.name ++ kind_word column.conversion

-- the column of record numbers, if records are numbered
abbrev pub number_header : Bool → List (List ℕ)
number_header numbered = if numbered then codes "row:int" ∷ [] else []

-- the header of the table file
abbrev pub table_header : Plan → List (List ℕ)
table_header plan = number_header plan.numbered ++ map column_field plan.columns ++ (codes "from" ∷ codes "to" ∷ [])

-- ---- the records

-- the fault of the record with this number
abbrev pub at_number : {A : Type 0} → ℕ → Result A RecordFault → Result A NumberedFault
at_number number (Err fault) = Err (record { number = number; fault = fault })
at_number number (Ok value) = Ok value

-- the text so far, with a line for each of the records, the first of which has this number
abbrev pub lines_after : Plan → List ℕ → ℕ → List (List (List ℕ)) → Result (List ℕ) NumberedFault
lines_after plan text number [] = Ok text
lines_after plan text number (fields ∷ records) =
    and_then (at_number number (import_record plan number fields)) (λ line. lines_after plan (text ++ row_text answer_format line) (number + 1) records)

-- the text of the table file of these records, which come after the header, record 1
abbrev pub import_of : Plan → List (List (List ℕ)) → Result (List ℕ) NumberedFault
import_of plan records = lines_after plan (row_text answer_format (table_header plan)) 2 records

-- ---- faults

-- a failure to read
abbrev pub input_fault : InputFault → ImportFault
input_fault input.Read = import.Read
input_fault input.OutOfMemory = import.OutOfMemory

-- a fault of a record is the first fault of the records, whatever the text so far; `last` is the invalid record
abbrev pub IsFaultAfter : Plan → ℕ → List (List (List ℕ)) → List (List ℕ) → ImportFault → Type 0
IsFaultAfter plan number records last (import.Record fault) =
    ((text : List ℕ) → lines_after plan text number records ≡ Err fault) × (import_record plan fault.number last ≡ Err fault.fault)
IsFaultAfter plan number records last import.Read = Unit {0}
IsFaultAfter plan number records last import.Write = Unit {0}
IsFaultAfter plan number records last import.OutOfMemory = Unit {0}

-- a fault of a record is the first fault of the file; `last` is the invalid record
abbrev pub IsFirstFault : Plan → List (List (List ℕ)) → List (List ℕ) → ImportFault → Type 0
IsFirstFault plan records last (import.Record fault) = (import_of plan records ≡ Err fault) × (import_record plan fault.number last ≡ Err fault.fault)
IsFirstFault plan records last import.Read = Unit {0}
IsFirstFault plan records last import.Write = Unit {0}
IsFirstFault plan records last import.OutOfMemory = Unit {0}

-- ---- what is written

-- the lines of the first of the remaining records, the first of which has this number, and the records after them: those that
-- the reader has left, if there may be more
pub record IsPartOf {R : Type 0} (plan : Plan) (number : ℕ) (left : List (List (List ℕ))) (remaining : R → Option (List ℕ)) (delimiter : ℕ) (reader : Reader R) (part : Part) : Type 0 where
  pub rest : List (List (List ℕ))
  pub has : part.more ≡ true → HasLeft remaining delimiter reader rest
  pub lines : (text : List ℕ) → lines_after plan text number left ≡ lines_after plan (text ++ part.text.items) part.next rest
  pub counted : part.next + length rest ≡ number + length left
  pub ended : part.more ≡ false → rest ≡ []

-- the whole table file was written, with a row for each record
pub record IsImport (plan : Plan) (records : List (List (List ℕ))) (old new : Option (List ℕ)) (imported : Imported) : Type 0 where
  pub text : List ℕ
  pub is : import_of plan records ≡ Ok text
  pub written : Appends old new text
  pub rows : imported.rows ≡ length records
