-- Rows that keep only the wanted values. This project's own.
use Rattle.std.specs.Prelude.{◌≡◌, ℕ, ◌+◌, pos, Bool, true, false, List, [], ◌∷◌, ◌++◌, Ok, map, slice_get, slice_index_or, sum_by, unwrap_or}
use Rattle.std.specs.Global.{Vec}
use Rattle.tq_base.specs.declared.value.Value.{Value}
use Rattle.tq_base.specs.declared.catalogue.Column.{Column}
use Rattle.tq_base.specs.declared.catalogue.Kind.{Kind}
use Rattle.tq_base.specs.declared.catalogue.Schema.{Schema}
use Rattle.tq_base.specs.declared.form.Form.{Form}
use Rattle.tq_base.specs.declared.fragment.Fragment.{Fragment}
use Rattle.tq_base.specs.declared.period.Period.{Period}
use Rattle.tq_base.specs.Contents.{Int, Text}
use Rattle.tq_base.specs.RowLists.{RowList}
use Rattle.tq_event.specs.declared.file.TableFile.{TableFile}
use Rattle.tq_event.specs.declared.file.Tables.{Tables}
use Rattle.tq_event.specs.Entries.{Entry}
use Rattle.tq_event.specs.Loading.{contents_of, entry_of, event_count, next_contents, table_contents, value_of, values_after}
use Rattle.tq_event.specs.Tables.{AreTables, entries_from, lists_of, rows_in, row_entry}

-- ---- values

-- the number 0 for a number, the empty text for a text
abbrev pub blank : Value → Value
blank (Int n) = Int (pos 0)
blank (Text t) = Text []

-- the value if it is wanted, else the blank value
abbrev pub projected_value : Bool → Value → Value
projected_value true value = value
projected_value false value = blank value

-- the values of a row, column by column; columns after the end of the list are wanted
unfoldable pub projected_values : List Bool → List Value → List Value
projected_values wanted [] = []
projected_values [] (v ∷ vs) = v ∷ vs
projected_values (w ∷ ws) (v ∷ vs) = projected_value w v ∷ projected_values ws vs

-- whether the column with this number is wanted
abbrev pub is_wanted : List Bool → ℕ → Bool
is_wanted wanted column = slice_index_or wanted column true

-- ---- rows

-- the row, valid in the same period
abbrev pub projected_row : List Bool → Fragment → Fragment
projected_row wanted row = record { values = projected_values wanted row.values; period = row.period }

-- the rows of a table
abbrev pub projected_rows : List Bool → RowList → RowList
projected_rows wanted rows = record { width = rows.width; items = map (projected_row wanted) rows.items }

-- ---- tables

-- for each table, which of its columns are wanted
abbrev pub wanted_lists : List (Vec Bool) → List (List Bool)
wanted_lists lists = map (λ (list : Vec Bool). list.items) lists

-- the wanted columns of the table with this number; all if the lists do not have it
abbrev pub wanted_of : List (List Bool) → ℕ → List Bool
wanted_of wanted table = unwrap_or (slice_get wanted table) []

-- the rows of tables, the first of which has this number
unfoldable pub projected_from : List (List Bool) → ℕ → List RowList → List RowList
projected_from wanted table [] = []
projected_from wanted table (rows ∷ tables) = projected_rows (wanted_of wanted table) rows ∷ projected_from wanted (table + 1) tables

-- the tables are the whole ones with only the wanted values kept
pub record AreProjected (wanted : List (List Bool)) (whole tables : Tables) : Type 0 where
  pub catalogue : tables.catalogue ≡ whole.catalogue
  pub rows : (table : ℕ) → rows_in (lists_of tables.rows) table ≡ map (projected_row (wanted_of wanted table)) (rows_in (lists_of whole.rows) table)

-- the tables of the files, with only the wanted values kept
pub record AreProjectedTables (form : Form) (files : List TableFile) (limit : ℕ) (wanted : List (List Bool)) (tables : Tables) : Type 0 where
  pub whole : Tables
  pub of_files : AreTables form files limit whole
  pub kept : AreProjected wanted whole tables

-- ---- what is read

-- the value of a field, kept if it is wanted
pub record IsProjectedValue (kind : Kind) (wanted : Bool) (field : List ℕ) (value : Value) : Type 0 where
  pub whole : Value
  pub parsed : value_of kind field ≡ Ok whole
  pub kept : value ≡ projected_value wanted whole

-- the values of the fields, with only the wanted ones kept
pub record AreProjectedValues (columns : List Column) (wanted : List Bool) (fields : List (List ℕ)) (values : List Value) : Type 0 where
  pub whole : List Value
  pub parsed : values_after [] columns fields ≡ Ok whole
  pub kept : values ≡ projected_values wanted whole

-- the values and the period of a record, whichever its table, with only the wanted values kept
pub record IsProjectedEntry (form : Form) (columns : List Column) (wanted : List Bool) (fields : List (List ℕ)) (values : List Value) (period : Period) : Type 0 where
  pub whole : List Value
  pub parsed : (table : ℕ) → entry_of form table columns fields ≡ Ok (row_entry table (record { values = whole; period = period }))
  pub kept : values ≡ projected_values wanted whole

-- the columns and rows of a table's bytes, with only the wanted values kept; the count of events grew by those of the
-- rows
pub record IsProjectedTable (form : Form) (limit table : ℕ) (wanted : List Bool) (bytes : List ℕ) (old new : ℕ) (columns : List Column) (rows : List Fragment) : Type 0 where
  pub whole : List Fragment
  pub kept : rows ≡ map (projected_row wanted) whole
  pub counted : new ≡ old + sum_by event_count (map (row_entry table) whole)
  pub parsed : (before : List Entry) → sum_by event_count before ≡ old → table_contents form limit table before bytes ≡ Ok (columns, before ++ map (row_entry table) whole)

-- the schemas and rows after one more file; before it, the whole rows were these
pub record IsProjectedAfter (form : Form) (limit : ℕ) (wanted : List (List Bool)) (before : List Schema) (rows : List RowList) (file : TableFile) (schemas : List Schema) (tables : List RowList) : Type 0 where
  pub whole : List RowList
  pub kept : tables ≡ projected_from wanted 0 whole
  pub parsed : next_contents form limit (record { tables = before; entries = entries_from 0 rows }) file ≡ Ok (record { tables = schemas; entries = entries_from 0 whole })

-- the schemas and rows of files, with only the wanted values kept
pub record AreProjectedFiles (form : Form) (files : List TableFile) (limit : ℕ) (wanted : List (List Bool)) (schemas : List Schema) (tables : List RowList) : Type 0 where
  pub whole : List RowList
  pub kept : tables ≡ projected_from wanted 0 whole
  pub parsed : contents_of form files limit ≡ Ok (record { tables = schemas; entries = entries_from 0 whole })
