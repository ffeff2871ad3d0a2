-- A file of which only the valid records are imported: the text of the table file, and what is written about the
-- invalid records. This project's own.
use Rattle.std.specs.Prelude.{◌≡◌, ℕ, ◌+◌, true, false, Some, List, [], ◌∷◌, ◌++◌, length, map, Option, Result, Ok, Err}
use Rattle.std.specs.Global.{Vec}
use Rattle.std.specs.Io.KnownBytes.{Appends}
use Rattle.csv.specs.Reading.{strip_bom}
use Rattle.csv.specs.Writing.{fields_written, has_written, read_back, row_text, text_written, with_delimiter, writer_setup}
use Rattle.csv.specs.declared.reader.Reader.{Reader}
use Rattle.csv.specs.declared.writer.Writer.{Writer}
use Rattle.csv.specs.declared.writer.WriterBuilder.{WriterBuilder}
use Rattle.tq_table.specs.Text.{answer_format}
use Rattle.tq_import.specs.declared.fault.ImportFault.{ImportFault}
use Rattle.tq_import.specs.declared.fault.ImportFault.TheVariants as import
use Rattle.tq_import.specs.declared.fault.RecordFault.{RecordFault}
use Rattle.tq_import.specs.declared.plan.Plan.{Plan}
use Rattle.tq_import.specs.declared.part.Rejects.{Rejects}
use Rattle.tq_import.specs.declared.part.Rejects.TheVariants as reject
use Rattle.tq_import.specs.declared.part.RejectText.{RejectText}
use Rattle.tq_import.specs.declared.part.RejectText.TheVariants as written
use Rattle.tq_import.specs.declared.part.Separated.{Separated}
use Rattle.tq_import.specs.declared.part.SeparatedPart.{SeparatedPart}
use Rattle.tq_import.specs.Imports.{import_of, table_header}
use Rattle.tq_import.specs.Messages.{message_line}
use Rattle.tq_import.specs.Reading.{HasLeft, records_by}
use Rattle.tq_import.specs.Records.{import_record, invalid_records, valid_records}

-- ---- valid and invalid records

-- an invalid record: its number in the file, its fault, and its fields
pub record InvalidRecord : Type 0 where
  pub number : ℕ
  pub fault : RecordFault
  pub fields : List (List ℕ)

-- the line that a record becomes; nothing, if it has a fault
abbrev pub line_of : Result (List (List ℕ)) RecordFault → List ℕ
line_of (Ok line) = row_text answer_format line
line_of (Err fault) = []

-- the record, if it has a fault
abbrev pub fault_of : ℕ → List (List ℕ) → Result (List (List ℕ)) RecordFault → List InvalidRecord
fault_of number fields (Ok line) = []
fault_of number fields (Err fault) = record { number = number; fault = fault; fields = fields } ∷ []

-- the lines of the valid ones of the records, the first of which has this number; each record keeps its own number
abbrev pub valid_lines : Plan → ℕ → List (List (List ℕ)) → List ℕ
valid_lines plan number [] = []
valid_lines plan number (fields ∷ records) = line_of (import_record plan number fields) ++ valid_lines plan (number + 1) records

-- the invalid ones of the records, in their order
abbrev pub faults_from : Plan → ℕ → List (List (List ℕ)) → List InvalidRecord
faults_from plan number [] = []
faults_from plan number (fields ∷ records) = fault_of number fields (import_record plan number fields) ++ faults_from plan (number + 1) records

-- the table file of the valid ones of the records, which come after the header, record 1
abbrev pub valid_table : Plan → List (List (List ℕ)) → List ℕ
valid_table plan records = row_text answer_format (table_header plan) ++ valid_lines plan 2 records

-- ---- what is written about invalid records

-- CSV with this byte between fields
abbrev pub separated_format : ℕ → WriterBuilder
separated_format delimiter = with_delimiter answer_format delimiter

-- the header of the file of invalid records; a list of messages has none
abbrev pub rejects_header : Rejects → List (List ℕ) → List ℕ
rejects_header (reject.Records delimiter) header = row_text (separated_format delimiter) header
rejects_header (reject.Messages path) header = []

-- what is written about an invalid record: its fields, or what is wrong with it and the line on which it begins
abbrev pub IsRejectText : Rejects → Plan → List (List ℕ) → InvalidRecord → List ℕ → Type 0
IsRejectText (reject.Records delimiter) plan header invalid text = text ≡ row_text (separated_format delimiter) invalid.fields
IsRejectText (reject.Messages path) plan header invalid text = (line : ℕ) × (text ≡ message_line path.now plan header line invalid.fault invalid.fields)

-- the writer has written whole rows with this byte between fields, with this text
pub record HasRows (delimiter : ℕ) (writer : Writer (Vec ℕ)) (text : List ℕ) : Type 0 where
  pub written : text_written (λ v. Some v.items) writer ≡ Some text
  pub setup : writer_setup writer ≡ separated_format delimiter
  pub fields : fields_written writer ≡ 0
  pub begun : has_written writer ≡ false

-- this text is what is written about invalid records so far
abbrev pub HasRejected : Rejects → RejectText → List ℕ → Type 0
HasRejected (reject.Records delimiter) (written.Rows writer) text = HasRows delimiter writer text
HasRejected (reject.Records delimiter) (written.Messages bytes) text = ⊥
HasRejected (reject.Messages path) (written.Rows writer) text = ⊥
HasRejected (reject.Messages path) (written.Messages bytes) text = bytes.items ≡ text

-- the texts of these invalid records, one after the other
abbrev pub AreRejectTexts : Rejects → Plan → List (List ℕ) → List InvalidRecord → List ℕ → Type 0
AreRejectTexts rejects plan header [] text = text ≡ []
AreRejectTexts rejects plan header (invalid ∷ more) text =
    (first : List ℕ) × (rest : List ℕ) × (text ≡ first ++ rest) × IsRejectText rejects plan header invalid first × AreRejectTexts rejects plan header more rest

-- ---- what is written

-- a fault that is not one of a record
abbrev pub IsNoRecordFault : ImportFault → Type 0
IsNoRecordFault (import.Record fault) = ⊥
IsNoRecordFault import.Read = Unit {0}
IsNoRecordFault import.Write = Unit {0}
IsNoRecordFault import.OutOfMemory = Unit {0}

-- what is written of the first of the remaining records, the first of which has this number, and the records after them: those
-- that the reader has left, if there may be more
pub record IsSeparatedPart {R : Type 0} (plan : Plan) (rejects : Rejects) (header : List (List ℕ)) (number : ℕ) (left : List (List (List ℕ))) (remaining : R → Option (List ℕ)) (delimiter : ℕ) (reader : Reader R) (part : SeparatedPart) : Type 0 where
  pub rest : List (List (List ℕ))
  pub has : part.more ≡ true → HasLeft remaining delimiter reader rest
  pub lines : valid_lines plan number left ≡ part.text.items ++ valid_lines plan part.next rest
  pub texts : (text : List ℕ) → AreRejectTexts rejects plan header (faults_from plan part.next rest) text → AreRejectTexts rejects plan header (faults_from plan number left) (part.rejected.items ++ text)
  pub invalid : length (faults_from plan number left) ≡ part.invalid + length (faults_from plan part.next rest)
  pub counted : part.next + length rest ≡ number + length left
  pub ended : part.more ≡ false → rest ≡ []

-- the table file of the valid records was written, and the rows or messages about the invalid ones
pub record IsSeparated (plan : Plan) (rejects : Rejects) (header : List (List ℕ)) (records : List (List (List ℕ))) (old new old_rejected new_rejected : Option (List ℕ)) (separated : Separated) : Type 0 where
  pub table : Appends old new (valid_table plan records)
  pub texts : List ℕ
  pub are : AreRejectTexts rejects plan header (faults_from plan 2 records) texts
  pub rejected : Appends old_rejected new_rejected (rejects_header rejects header ++ texts)
  pub invalid : separated.invalid ≡ length (invalid_records plan records)
  pub rows : separated.rows ≡ length (valid_records plan records)

-- ---- laws

-- without an invalid record, the table file is that of a plain import
abbrev pub ValidFilesAgree : Type 0
ValidFilesAgree = (plan : Plan) (records : List (List (List ℕ))) → faults_from plan 2 records ≡ []
    → import_of plan records ≡ Ok (valid_table plan records)

-- the first invalid record is the one that stops a plain import
abbrev pub FirstFaultsAgree : Type 0
FirstFaultsAgree = (plan : Plan) (records : List (List (List ℕ))) (invalid : InvalidRecord) (more : List InvalidRecord) → faults_from plan 2 records ≡ invalid ∷ more
    → import_of plan records ≡ Err (record { number = invalid.number; fault = invalid.fault })

-- each record is valid or invalid, and not both: the invalid ones are those that `invalid_records` keeps, and together there are as
-- many as records
pub record AreSplit (plan : Plan) (records : List (List (List ℕ))) : Type 0 where
  pub invalid : map (λ (f : InvalidRecord). f.fields) (faults_from plan 2 records) ≡ invalid_records plan records
  pub all : length (valid_records plan records) + length (invalid_records plan records) ≡ length records

abbrev pub RecordsAreSplit : Type 0
RecordsAreSplit = (plan : Plan) (records : List (List (List ℕ))) → AreSplit plan records

-- without row numbers, the table file of the valid records is that of a plain import of these records alone
abbrev pub ValidRecordsAgree : Type 0
ValidRecordsAgree = (plan : Plan) (records : List (List (List ℕ))) → plan.numbered ≡ false
    → import_of plan (valid_records plan records) ≡ Ok (valid_table plan records)

-- with commas, the file of invalid records is read as the header and these records, unless it begins with a byte order mark. A record
-- without fields, which no file has, is read as one empty field
abbrev pub RejectsAreReadBack : Type 0
RejectsAreReadBack = (plan : Plan) (header : List (List ℕ)) (records : List (List (List ℕ))) (texts : List ℕ)
    → AreRejectTexts (reject.Records 44) plan header (faults_from plan 2 records) texts
    → strip_bom (rejects_header (reject.Records 44) header ++ texts) ≡ rejects_header (reject.Records 44) header ++ texts
    → records_by 44 (rejects_header (reject.Records 44) header ++ texts) ≡ map read_back (header ∷ invalid_records plan records)
