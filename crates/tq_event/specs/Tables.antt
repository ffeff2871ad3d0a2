-- Tables of rows with periods: how they follow from files, and when they hold what a history holds.
use Rattle.std.specs.Prelude.{◌≡◌, ℕ, ◌+◌, ◌==◌, List, [], ◌∷◌, ◌++◌, Ok, filter, length, map, slice_get, unwrap_or}
use Rattle.tq_base.specs.declared.fragment.Fragment.{Fragment}
use Rattle.tq_base.specs.declared.value.Value.{Value}
use Rattle.tq_base.specs.declared.catalogue.Schema.{Schema}
use Rattle.tq_base.specs.declared.form.Form.{Form}
use Rattle.tq_base.specs.Fragments.{at, occurrences}
use Rattle.tq_base.specs.RowLists.{RowList}
use Rattle.tq_event.specs.declared.event.Event.{Event}
use Rattle.tq_event.specs.declared.file.TableFile.{TableFile}
use Rattle.tq_event.specs.declared.file.Loaded.{Loaded}
use Rattle.tq_event.specs.declared.file.Tables.{Tables}
use Rattle.tq_event.specs.Entries.{Entry}
use Rattle.tq_event.specs.History.{valid_at}
use Rattle.tq_event.specs.Loading.{Contents, IsLoaded, contents_of}

-- the rows of the table with this number
abbrev pub rows_in : List (List Fragment) → ℕ → List Fragment
rows_in tables table = unwrap_or (slice_get tables table) []

-- the entry of a row of the table with this number
abbrev pub row_entry : ℕ → Fragment → Entry
row_entry table row = record { table = table; values = row.values; from = row.period.start; to = row.period.end }

-- the entries of the tables' rows, the first of which is the table with this number
unfoldable pub entries_from : ℕ → List RowList → List Entry
entries_from table [] = []
entries_from table (rows ∷ tables) = map (row_entry table) rows.items ++ entries_from (table + 1) tables

-- the rows of each table, without their widths
abbrev pub lists_of : List RowList → List (List Fragment)
lists_of tables = map (λ (rows : RowList). rows.items) tables

-- each table has rows with one value for each of its columns
abbrev pub AreRead : List Schema → List RowList → Type 0
AreRead schemas tables = map (λ (rows : RowList). rows.width) tables ≡ map (λ (s : Schema). length s.columns) schemas

-- each table's rows are those of its records, in their order
abbrev pub AreRowsOf : List Entry → List (List Fragment) → Type 0
AreRowsOf entries tables = (table : ℕ) → map (row_entry table) (rows_in tables table) ≡ filter (λ (e : Entry). e.table == table) entries

-- the tables of the files
pub record AreTables (form : Form) (files : List TableFile) (limit : ℕ) (tables : Tables) : Type 0 where
  pub contents : Contents
  pub is_contents : contents_of form files limit ≡ Ok contents
  pub catalogue : tables.catalogue.tables ≡ contents.tables
  pub read : AreRead contents.tables tables.rows
  pub rows : AreRowsOf contents.entries (lists_of tables.rows)

-- at each instant, the table has each list of values as often as the history has it as of its first n events
abbrev pub HoldsRows : List (List Fragment) → List Event → ℕ → ℕ → Type 0
HoldsRows tables history n table = (t : ℕ) (v : List Value) → occurrences (at (rows_in tables table) t) v ≡ occurrences (valid_at history n table t) v

-- the files hold a history, and the tables hold what is valid by all its events
pub record AreLoaded (form : Form) (files : List TableFile) (limit : ℕ) (tables : Tables) : Type 0 where
  pub loaded : Loaded
  pub is_loaded : IsLoaded form files limit loaded
  pub catalogue : loaded.catalogue ≡ tables.catalogue
  pub hold : (table : ℕ) → HoldsRows (lists_of tables.rows) loaded.events (length loaded.events) table

-- the tables of files hold what the history of the files holds
abbrev pub TablesAreLoaded : Type 0
TablesAreLoaded = (form : Form) (files : List TableFile) (limit : ℕ) (tables : Tables) → AreTables form files limit tables → AreLoaded form files limit tables
