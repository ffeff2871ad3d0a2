-- Table files that are divided into part files by the values of a column. This project's own.
use Rattle.std.specs.Prelude.{◌≡◌, ◌≤◌, ◌<◌, ◌+◌, ◌==◌, ℕ, Bool, true, false, if◌then◌else◌, List, [], ◌∷◌, ◌++◌, All, Option, None, Result, Ok, Err, filter, length, map, slice_index_or, sum_by}
use Rattle.std.specs.Global.{Vec}
use Rattle.std.specs.Io.KnownBytes.{Appends}
use Rattle.std.specs.List.{AllZip}
use Rattle.csv.specs.Writing.{row_text, writer_under}
use Rattle.csv.specs.declared.reader.Reader.{Reader}
use Rattle.csv.specs.declared.writer.Writer.{Writer}
use Rattle.tq_base.specs.declared.catalogue.Column.{Column}
use Rattle.tq_base.specs.declared.form.Form.{Form}
use Rattle.tq_base.specs.declared.value.Value.{Value}
use Rattle.tq_base.specs.RowValues.{value_at}
use Rattle.tq_event.specs.Entries.{Entry}
use Rattle.tq_event.specs.Loading.{csv_records, entry_of, event_count, header_of, table_contents}
use Rattle.tq_event.specs.Projection.{is_wanted}
use Rattle.tq_event.specs.declared.fault.LoadFaultKind.{LoadFaultKind}
use Rattle.tq_table.specs.Sink.{SinkState}
use Rattle.tq_table.specs.Text.{answer_format}
use Rattle.tq_table.specs.Writing.{HasWritten}
use Rattle.tq_import.specs.Reading.{HasLeft}
use Rattle.tq_split.specs.declared.division.Batch.{Batch}
use Rattle.tq_split.specs.declared.division.Cut.{Cut}
use Rattle.tq_split.specs.declared.division.Divided.{Divided}
use Rattle.tq_split.specs.declared.division.Division.{Division}
use Rattle.tq_split.specs.declared.division.DivisionFault.{DivisionFault}
use Rattle.tq_split.specs.declared.division.DivisionFault.TheVariants.{Header, Input, NoColumn, NoHeader, OutOfMemory, Record, Write}
use Rattle.tq_split.specs.PartNumbers.{part_number}

-- ---- the parts of rows and records

-- the part of a row with these values: that of its value in the column
abbrev pub row_part : ℕ → ℕ → List Value → ℕ
row_part parts column values = part_number parts (value_at values column)

-- the part of the row that was read; 0 if there is none
abbrev pub read_part : ℕ → ℕ → Result Entry LoadFaultKind → ℕ
read_part parts column (Ok entry) = row_part parts column entry.values
read_part parts column (Err kind) = 0

-- the part of a record of a table with these columns: that of the row that the loader reads from it
abbrev pub record_part : ℕ → Form → List Column → ℕ → List (List ℕ) → ℕ
record_part parts form columns column fields = read_part parts column (entry_of form 0 columns fields)

-- the records of a part, and below, its rows, in their order
abbrev pub records_in : ℕ → Form → List Column → ℕ → ℕ → List (List (List ℕ)) → List (List (List ℕ))
records_in parts form columns column part records = filter (λ fields. record_part parts form columns column fields == part) records

abbrev pub entries_in : ℕ → ℕ → ℕ → List Entry → List Entry
entries_in parts column part entries = filter (λ (entry : Entry). row_part parts column entry.values == part) entries

-- ---- the texts of parts

-- the lines of records
abbrev pub records_text : List (List (List ℕ)) → List ℕ
records_text [] = []
records_text (fields ∷ records) = row_text answer_format fields ++ records_text records

-- the header's line, if it is written
abbrev pub header_text : Bool → List (List ℕ) → List ℕ
header_text begins header = if begins then row_text answer_format header else []

-- the lines of the records of a part, in their order
abbrev pub part_lines : ℕ → Form → List Column → ℕ → List (List (List ℕ)) → ℕ → List ℕ
part_lines parts form columns column records part = records_text (records_in parts form columns column part records)

-- the text of a part
abbrev pub part_text : ℕ → Form → List Column → ℕ → Bool → List (List ℕ) → List (List (List ℕ)) → ℕ → List ℕ
part_text parts form columns column begins header records part = header_text begins header ++ part_lines parts form columns column records part

-- ---- what is written

-- the known bytes of the sinks' writers
abbrev pub known_bytes : {W : Type 0} → (W → Option (List ℕ)) → List (SinkState W) → List (Option (List ℕ))
known_bytes {W} contents sinks = map (λ (sink : SinkState W). contents sink.writer) sinks

-- to the known bytes of each part, its text was appended
abbrev pub AreAppended : List (Option (List ℕ)) → List (Option (List ℕ)) → (ℕ → List ℕ) → Type 0
AreAppended old new text = (part : ℕ) → part < length old → Appends (slice_index_or old part None) (slice_index_or new part None) (text part)

-- the loader reads a row from the record
abbrev pub HasEntry : Form → List Column → List (List ℕ) → Type 0
HasEntry form columns fields = (entry : Entry) × (entry_of form 0 columns fields ≡ Ok entry)

-- the whole file was divided: each record was written to its part
pub record IsDivided (division : Division) (text : List ℕ) (old new : List (Option (List ℕ))) (divided : Divided) : Type 0 where
  pub header : List (List ℕ)
  pub records : List (List (List ℕ))
  pub split : csv_records text ≡ header ∷ records
  pub columns : header_of header ≡ Ok divided.columns.items
  pub column : division.column < length divided.columns.items
  pub entries : All (HasEntry division.form divided.columns.items) records
  pub written : AreAppended old new (part_text (length old) division.form divided.columns.items division.column division.begins header records)
  pub rows : divided.rows ≡ length records

-- ---- faults

-- of records, the first of which has this number, the one with the number `place` is the first without a row
pub record IsFirstInvalid (form : Form) (columns : List Column) (number : ℕ) (records : List (List (List ℕ))) (place : ℕ) (kind : LoadFaultKind) : Type 0 where
  pub valid : List (List (List ℕ))
  pub fields : List (List ℕ)
  pub rest : List (List (List ℕ))
  pub split : records ≡ valid ++ fields ∷ rest
  pub entries : All (HasEntry form columns) valid
  pub invalid : entry_of form 0 columns fields ≡ Err kind
  pub place_is : place ≡ number + length valid

-- a fault of a record is that of the first invalid one of the records, the first of which has this number
abbrev pub IsRecordsFault : Form → List Column → ℕ → List (List (List ℕ)) → DivisionFault → Type 0
IsRecordsFault form columns number records (Record place kind) = IsFirstInvalid form columns number records place kind
IsRecordsFault form columns number records (Input fault) = Unit {0}
IsRecordsFault form columns number records Write = Unit {0}
IsRecordsFault form columns number records OutOfMemory = Unit {0}
IsRecordsFault form columns number records NoHeader = ⊥
IsRecordsFault form columns number records (Header kind) = ⊥
IsRecordsFault form columns number records NoColumn = ⊥

-- the header's fault, or a table without the column
abbrev pub IsHeaderFault : Division → List (List ℕ) → DivisionFault → Type 0
IsHeaderFault division header (Header kind) = header_of header ≡ Err kind
IsHeaderFault division header NoColumn = (columns : List Column) × (header_of header ≡ Ok columns) × (length columns ≤ division.column)
IsHeaderFault division header OutOfMemory = Unit {0}
IsHeaderFault division header (Record place kind) = ⊥
IsHeaderFault division header (Input fault) = ⊥
IsHeaderFault division header Write = ⊥
IsHeaderFault division header NoHeader = ⊥

-- the fault is the first one of the file: it has no header, the header is invalid, the table does not have the column, or a
-- record has no row
abbrev pub IsDivisionFault : Division → List (List (List ℕ)) → DivisionFault → Type 0
IsDivisionFault division records NoHeader = records ≡ []
IsDivisionFault division records (Header kind) = (header : List (List ℕ)) × (rest : List (List (List ℕ))) × (records ≡ header ∷ rest) × (header_of header ≡ Err kind)
IsDivisionFault division records NoColumn =
    (header : List (List ℕ)) × (rest : List (List (List ℕ))) × (columns : List Column) × (records ≡ header ∷ rest) × (header_of header ≡ Ok columns) × (length columns ≤ division.column)
IsDivisionFault division records (Record place kind) =
    (header : List (List ℕ)) × (rest : List (List (List ℕ))) × (columns : List Column) × (records ≡ header ∷ rest) × (header_of header ≡ Ok columns) × (division.column < length columns)
    × IsFirstInvalid division.form columns 2 rest place kind
IsDivisionFault division records (Input fault) = Unit {0}
IsDivisionFault division records Write = Unit {0}
IsDivisionFault division records OutOfMemory = Unit {0}

-- ---- steps

-- the texts of lists of bytes
abbrev pub texts_of : List (Vec ℕ) → List (List ℕ)
texts_of texts = map (λ (text : Vec ℕ). text.items) texts

-- each of the texts is that of its part
abbrev pub AreTexts : List (List ℕ) → (ℕ → List ℕ) → Type 0
AreTexts texts text = (part : ℕ) → part < length texts → slice_index_or texts part [] ≡ text part

-- the writer has written whole lines with this text, and the list under it has them all
pub record HasFlushed (writer : Writer (Vec ℕ)) (text : List ℕ) : Type 0 where
  pub whole : HasWritten writer text
  pub held : (writer_under writer).items ≡ text

-- the column and the columns of the table with this header; the column's values are kept
pub record IsCut (division : Division) (header : List (List ℕ)) (cut : Cut) : Type 0 where
  pub columns : header_of header ≡ Ok cut.columns.items
  pub column : cut.column ≡ division.column
  pub within : cut.column < length cut.columns.items
  pub form : cut.form ≡ division.form
  pub wanted : is_wanted cut.wanted.items cut.column ≡ true

-- for each of the parts, the lines of the first of the remaining records; and the records after them, those that the reader
-- has left, if there may be more
pub record IsBatch {R : Type 0} (cut : Cut) (parts number : ℕ) (left : List (List (List ℕ))) (remaining : R → Option (List ℕ)) (reader : Reader R) (batch : Batch) : Type 0 where
  pub done : List (List (List ℕ))
  pub rest : List (List (List ℕ))
  pub split : left ≡ done ++ rest
  pub has : batch.more ≡ true → HasLeft remaining 44 reader rest
  pub ended : batch.more ≡ false → rest ≡ []
  pub entries : All (HasEntry cut.form cut.columns.items) done
  pub texts : AreTexts (texts_of batch.texts.items) (part_lines parts cut.form cut.columns.items cut.column done)
  pub counted : batch.next ≡ number + length done

-- the records were written to their parts
pub record AreDivided (cut : Cut) (records : List (List (List ℕ))) (old new : List (Option (List ℕ))) (rows : ℕ) : Type 0 where
  pub entries : All (HasEntry cut.form cut.columns.items) records
  pub written : AreAppended old new (part_lines (length old) cut.form cut.columns.items cut.column records)
  pub rows_are : rows ≡ length records

-- ---- laws

-- the loader reads these rows from the records, one from each
abbrev pub AreRows : Form → ℕ → List Column → List (List (List ℕ)) → List Entry → Type 0
AreRows form table columns records entries = AllZip (λ fields entry. entry_of form table columns fields ≡ Ok entry) records entries

-- under a valid header, the lines of a part load as the rows of the part, in their order, unless these exceed the limit on events
abbrev pub LinesLoad : Type 0
LinesLoad = (parts : ℕ) (form : Form) (column part : ℕ) (header : List (List ℕ)) (records : List (List (List ℕ))) (columns : List Column) (limit table : ℕ) (before entries : List Entry)
    → header_of header ≡ Ok columns
    → AreRows form table columns records entries
    → sum_by event_count (before ++ entries_in parts column part entries) ≤ limit
    → table_contents form limit table before (part_text parts form columns column true header records part) ≡ Ok (columns, before ++ entries_in parts column part entries)

-- a further file, which does not begin the parts, adds the lines of its records to them
abbrev pub PartsAppend : Type 0
PartsAppend = (parts : ℕ) (form : Form) (columns : List Column) (column : ℕ) (begins : Bool) (header other : List (List ℕ)) (records more : List (List (List ℕ))) (part : ℕ)
    → part_text parts form columns column begins header (records ++ more) part ≡ part_text parts form columns column begins header records part ++ part_text parts form columns column false other more part

-- if a whole file loads, the text of each part loads as the rows of the part, in their order, unless these exceed the limit on
-- events
abbrev pub PartsLoad : Type 0
PartsLoad = (parts : ℕ) (form : Form) (column part : ℕ) (text : List ℕ) (header : List (List ℕ)) (records : List (List (List ℕ))) (columns : List Column) (most limit table : ℕ) (before entries : List Entry)
    → csv_records text ≡ header ∷ records
    → table_contents form most table [] text ≡ Ok (columns, entries)
    → sum_by event_count (before ++ entries_in parts column part entries) ≤ limit
    → table_contents form limit table before (part_text parts form columns column true header records part) ≡ Ok (columns, before ++ entries_in parts column part entries)
