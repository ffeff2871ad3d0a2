-- The open rows of every table, found by their values; the events that start them are kept elsewhere. This project's
-- own.
use Rattle.std.specs.Prelude.{◌≡◌, ℕ, ◌≤◌, ◌%◌, ◌&&◌, not, is_some, Bool, false, List, map, length, slice_get, Some}
use Rattle.std.specs.List.Sorted.{IsNonDecreasingBy}
use Rattle.std.specs.Option.{option_map_or}
use Rattle.std.specs.Ordering.{eq_by_cmp, nat_cmp}
use Rattle.tq_base.specs.declared.catalogue.Catalogue.{Catalogue}
use Rattle.tq_base.specs.declared.value.Value.{Value}
use Rattle.tq_base.specs.ValueOrder.{values_cmp}
use Rattle.tq_event.specs.declared.event.Event.{Event}
use Rattle.tq_event.specs.History.{IsAdmissible, rows_of, time_of}
use Rattle.tq_event.specs.Versions.{Life, row_lives}
use Rattle.tq_snapshot.specs.declared.open_index.OpenIndex.{OpenIndex}
use Rattle.tq_snapshot.specs.declared.open_index.TableRows.{TableRows}
use Rattle.tq_snapshot.specs.declared.open_rows.OpenRows.{OpenRows}
use Rattle.tq_snapshot.specs.OpenRows.{has, index_key}
use Rattle.tq_store.specs.Index.{AreRowLives}

-- the number of the table's next row: the number of its rows that the events start
abbrev pub next_row : List Event → ℕ → ℕ
next_row events table = length (rows_of events (length events) table)

-- the numbers of the events that start the rows
abbrev pub start_numbers : List Event → ℕ → List ℕ
start_numbers events table = map (λ (l : Life). l.start) (row_lives events table)

-- whether a row with this life is open and has these values
abbrev pub is_open_of : List Value → Life → Bool
is_open_of values l = not (is_some l.ending) && eq_by_cmp values_cmp l.values values

-- whether the row with this number is open and has these values
abbrev pub is_open_at : List Life → List Value → ℕ → Bool
is_open_at lives values row = option_map_or (is_open_of values) (slice_get lives row) false

-- whether a row with this life and with the number in the key is open and has this key
abbrev pub is_open_as : ℕ → Life → Bool
is_open_as key l = not (is_some l.ending) && eq_by_cmp nat_cmp (index_key l.values (key % 4294967296)) key

-- whether the row with the number in the key is open and has this key
abbrev pub is_open_under : List Life → ℕ → Bool
is_open_under lives key = option_map_or (is_open_as key) (slice_get lives (key % 4294967296)) false

-- the keys are those of the table's open rows
pub record AreOpenRows (events : List Event) (table : ℕ) (rows : OpenRows) : Type 0 where
  pub few : length (row_lives events table) ≤ length events
  pub opened : (key : ℕ) → has rows key ≡ is_open_under (row_lives events table) key

-- the rows are those of the table by the events, with the open ones among them
pub record AreTableRows (events : List Event) (table : ℕ) (rows : TableRows) : Type 0 where
  pub starts : rows.starts.items ≡ start_numbers events table
  pub open_rows : AreOpenRows events table rows.opened
  pub good : AreRowLives events table

-- the number of tables
abbrev pub table_count : OpenIndex → ℕ
table_count index = length index.tables.items

-- the index has the rows of every table by the events, which are in order of time
pub record IsOpenIndex (events : List Event) (index : OpenIndex) : Type 0 where
  pub each : (table : ℕ) (rows : TableRows) → slice_get index.tables.items table ≡ Some rows → AreTableRows events table rows
  pub ordered : IsNonDecreasingBy time_of events
  pub few : length events ≤ 16777216

-- the event may follow the events, over a catalogue with `tables` tables
pub record MayFollow (tables : ℕ) (events : List Event) (event : Event) : Type 0 where
  pub catalogue : Catalogue
  pub same : length catalogue.tables ≡ tables
  pub admissible : IsAdmissible catalogue events event
