-- Parts of the files of tables, and the rows of their records. This project's own.
use Rattle.std.specs.Prelude.{◌≡◌, ◌≢◌, ◌≤◌, ◌<◌, ℕ, zero, suc, Bool, true, false, List, [], ◌∷◌, length, map, take, drop, slice_get, slice_range, Some, Ok}
use Rattle.std.proofs.Props.{props}
use Rattle.csv.specs.Machine.{step}
use Rattle.csv.specs.Reading.{default_config, strip_bom}
use Rattle.csv.specs.declared.parser.State.{State}
use Rattle.csv.specs.declared.parser.State.TheVariants as st
use Rattle.tq_base.specs.declared.form.Form.{Form}
use Rattle.tq_base.specs.declared.catalogue.Column.{Column}
use Rattle.tq_base.specs.declared.catalogue.Schema.{Schema}
use Rattle.tq_base.specs.declared.fragment.Fragment.{Fragment}
use Rattle.tq_base.specs.RowLists.{RowList}
use Rattle.tq_event.specs.declared.file.TableFile.{TableFile}
use Rattle.tq_event.specs.Projection.{projected_row, projected_rows, wanted_of}
use Rattle.tq_event.specs.Loading.{begins_with_bom, columns_of, csv_records, entry_of, next_name}
use Rattle.tq_event.specs.Tables.{row_entry}
use Rattle.tq_load.specs.Feeds.{ends_in_feed}
use Rattle.tq_load.specs.declared.part.Part.{Part}
use Rattle.tq_load.specs.declared.part.PartRows.{PartRows}

-- ---- where files are cut

-- the state of the record reader after the bytes, begun in the given state
unfoldable pub state_after : State → List ℕ → State
state_after s [] = s
state_after s (b ∷ bytes) = state_after (step default_config s b).0 bytes

-- after the bytes, without any byte order mark at their start, the reader is at the start of a record
abbrev pub EndsRecords : List ℕ → Type 0
EndsRecords bytes = state_after st.StartRecord (strip_bom bytes) ≡ st.StartRecord

-- the place follows a line feed, and no byte order mark begins there
pub record IsCut (bytes : List ℕ) (place : ℕ) : Type 0 where
  pub feed : ends_in_feed (take place bytes) ≡ true
  pub no_bom : begins_with_bom (drop place bytes) ≡ false

-- a part of the bytes that begins at their start or at a cut
pub record IsPart (bytes : List ℕ) (part : Part) : Type 0 where
  pub ordered : part.start ≤ part.end
  pub within : part.end ≤ length bytes
  pub begins : part.start ≢ 0 → IsCut bytes part.start

-- a part of one of the files
pub record IsPartOf (files : List TableFile) (part : Part) : Type 0 where
  pub table : part.table < length files
  pub of_file : (file : TableFile) → slice_get files part.table ≡ Some file → IsPart file.bytes part

-- ---- the rows of records

-- each record is read as one row, in order
abbrev pub ParseRows : Form → List Column → List (List (List ℕ)) → List Fragment → Type 0
ParseRows form columns records rows = (table : ℕ) → map (entry_of form table columns) records ≡ map (λ row. Ok (row_entry table row)) rows

-- each record is read as one row, with only the wanted values kept
pub record ParseProjected (form : Form) (columns : List Column) (wanted : List Bool) (records : List (List (List ℕ))) (rows : List Fragment) : Type 0 where
  pub whole : List Fragment
  pub parsed : ParseRows form columns records whole
  pub kept : rows ≡ map (projected_row wanted) whole

-- the records of a part that begins at this place are read as the rows; the first record of a file is its header
abbrev pub PartParses : Form → ℕ → List Column → List (List (List ℕ)) → List Fragment → Type 0
PartParses form zero columns [] rows = ⊥
PartParses form zero columns (header ∷ records) rows = ParseRows form columns records rows
PartParses form (suc start) columns records rows = ParseRows form columns records rows

-- the same, with only the wanted values kept
pub record PartParsesProjected (form : Form) (start : ℕ) (columns : List Column) (wanted : List Bool) (records : List (List (List ℕ))) (rows : List Fragment) : Type 0 where
  pub whole : List Fragment
  pub parsed : PartParses form start columns records whole
  pub kept : rows ≡ map (projected_row wanted) whole

-- the rows of a part of a table's bytes. If a line feed comes before the part's end, a record ends there.
pub record AreRowsOfPart (form : Form) (columns : List Column) (bytes : List ℕ) (part : Part) (rows : RowList) : Type 0 where
  pub part_of : IsPart bytes part
  pub wide : rows.width ≡ length columns
  pub parsed : PartParses form part.start columns (csv_records (slice_range bytes part.start part.end)) rows.items
  pub ends : ends_in_feed (take part.end bytes) ≡ true → EndsRecords (slice_range bytes part.start part.end)

-- the rows of a part, with only the wanted values kept
pub record AreProjectedOfPart (form : Form) (columns : List Column) (wanted : List Bool) (bytes : List ℕ) (part : Part) (rows : RowList) : Type 0 where
  pub whole : RowList
  pub of_part : AreRowsOfPart form columns bytes part whole
  pub kept : rows ≡ projected_rows wanted whole

-- the condition holds for the file and the schema of the table
abbrev pub HoldsAt : List TableFile → List Schema → ℕ → (TableFile → Schema → Type 0) → Type 0
HoldsAt files schemas table holds = (file : TableFile) (schema : Schema) → slice_get files table ≡ Some file → slice_get schemas table ≡ Some schema → holds file schema

-- the rows are those of their part, with only the wanted values of its table kept
abbrev pub IsRead : Form → List TableFile → List (List Bool) → List Schema → PartRows → Type 0
IsRead form files wanted schemas read = HoldsAt files schemas read.part.table (λ file schema. AreProjectedOfPart form schema.columns (wanted_of wanted read.part.table) file.bytes read.part read.rows)

-- the schemas are those of the files' names and headers
pub record AreHeaded (files : List TableFile) (schemas : List Schema) : Type 0 where
  pub many : length schemas ≡ length files
  pub named : (table : ℕ) → HoldsAt files schemas table (λ file schema. next_name (take table schemas) file.name ≡ Ok schema.name)
  pub headed : (table : ℕ) → HoldsAt files schemas table (λ file schema. columns_of file.bytes ≡ Ok schema.columns)

-- the rows of a table are those of the records after its header
pub record AreRowsOfTable (form : Form) (columns : List Column) (bytes : List ℕ) (rows : RowList) : Type 0 where
  pub wide : rows.width ≡ length columns
  pub parsed : ParseRows form columns (drop 1 (csv_records bytes)) rows.items

-- the same, with only the wanted values kept
pub record AreProjectedOfTable (form : Form) (columns : List Column) (wanted : List Bool) (bytes : List ℕ) (rows : RowList) : Type 0 where
  pub whole : RowList
  pub of_table : AreRowsOfTable form columns bytes whole
  pub kept : rows ≡ projected_rows wanted whole

-- each table has its rows
pub record HaveRows (form : Form) (files : List TableFile) (schemas : List Schema) (tables : List RowList) : Type 0 where
  pub many : length tables ≡ length files
  pub each : (table : ℕ) (rows : RowList) → slice_get tables table ≡ Some rows → HoldsAt files schemas table (λ file schema. AreRowsOfTable form schema.columns file.bytes rows)

-- the same, with only the wanted values kept
pub record HaveProjectedRows (form : Form) (files : List TableFile) (wanted : List (List Bool)) (schemas : List Schema) (tables : List RowList) : Type 0 where
  pub many : length tables ≡ length files
  pub each : (table : ℕ) (rows : RowList) → slice_get tables table ≡ Some rows
      → HoldsAt files schemas table (λ file schema. AreProjectedOfTable form schema.columns (wanted_of wanted table) file.bytes rows)

-- ---- proofs of being a part are equal

cut_prop : (bytes : List ℕ) (place : ℕ) → IsProp (IsCut bytes place)
cut_prop bytes place = hlevel props

part_prop : (bytes : List ℕ) (part : Part) → IsProp (IsPart bytes part)
part_prop bytes part = hlevel (props, cut_prop)

pub part_of_prop : (files : List TableFile) (part : Part) → IsProp (IsPartOf files part)
part_of_prop files part = hlevel (props, part_prop)
