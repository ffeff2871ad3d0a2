-- The index of a table: a tree, and the events and values of its rows. What holds after the events so far. This
-- project's own.
use Rattle.std.specs.Prelude.{◌≡◌, ◌≢◌, ℕ, ◌+◌, ◌*◌, ◌<◌, ◌≤◌, List, map, length, slice_get, slice_index_or, true, Option, Some, None, IsSomeAnd, IfSome, FitsSigned, ⊤}
use Rattle.std.specs.Int.{w64}
use Rattle.std.specs.List.Sorted.{IsNonDecreasingBy}
use Rattle.std.specs.Option.{option_map, option_map_or}
use Rattle.tq_base.specs.declared.catalogue.Catalogue.{Catalogue}
use Rattle.tq_base.specs.declared.catalogue.Schema.{Schema}
use Rattle.tq_base.specs.declared.fragment.Fragment.{Fragment}
use Rattle.tq_base.specs.declared.period.TheConstants.{FOREVER}
use Rattle.tq_base.specs.declared.value.Value.{Value}
use Rattle.tq_event.specs.declared.event.Event.{Event}
use Rattle.tq_event.specs.declared.event.Event.TheVariants.{Start, End}
use Rattle.tq_event.specs.History.{IsHistory, time_of}
use Rattle.tq_event.specs.Recorded.{table_of}
use Rattle.tq_event.specs.Versions.{Ending, Life, row_lives}
use Rattle.tq_mvbt.specs.NodeState.{NodeState}
use Rattle.tq_mvbt.specs.Points.{now}
use Rattle.tq_mvbt.specs.TreeState.{HasLife, TreeState, lives_of}
use Rattle.tq_store.specs.declared.index.Index.{Index}
use Rattle.tq_store.specs.declared.index.RowEvents.{RowEvents}
use Rattle.tq_base.specs.KeyRanges.{key_of}
use Rattle.tq_store.specs.Keys.{shifted, tree_key}

-- the first version at which a row with this end is dead
abbrev pub dead_of : Option Ending → ℕ
dead_of None = now
dead_of (Some e) = e.event + 1

-- the events of a row, and its key
abbrev pub events_of : Life → RowEvents
events_of l = record { start = l.start; end = option_map (λ e. e.event) l.ending; from = l.from; to = option_map_or (λ e. e.at) l.ending FOREVER; key = shifted (key_of l.values) }

-- the tree key of the row with this number
abbrev pub tree_key_of : RowEvents → ℕ → ℕ
tree_key_of known row = known.key * 4294967296 + row

-- the events of each row of the table
abbrev pub stored_rows : List Event → ℕ → List RowEvents
stored_rows events table = map events_of (row_lives events table)

-- the values of each row of the table
abbrev pub stored_values : List Event → ℕ → List (List Value)
stored_values events table = map (λ (l : Life). l.values) (row_lives events table)

-- the values of a list of rows
abbrev pub values_of : List Fragment → List (List Value)
values_of rows = map (λ (row : Fragment). row.values) rows

-- the row, ended by the event with this number and time
abbrev pub ended : ℕ → ℕ → RowEvents → RowEvents
ended number at row = record row { end = Some number; to = at }

-- a row's key has 64 signed bits, and the row ends after it starts, if it ends
pub record IsRowLife (l : Life) : Type 0 where
  pub key : FitsSigned w64 (key_of l.values)
  pub finite : l.from < FOREVER
  pub lasts : IfSome l.ending (λ e. (l.from < e.at) × (l.start < e.event))
  pub ends : IfSome l.ending (λ e. e.at < FOREVER)

-- the key is the tree key of one of these rows
pub record IsKeyOf (lives : List Life) (key : ℕ) : Type 0 where
  pub row : ℕ
  pub life : Life
  pub stands : slice_get lives row ≡ Some life
  pub same : key ≡ tree_key life.values row

-- a tree has exactly the keys of these rows, each at the versions of the row's life
pub record HasRows (lives : List Life) (count version : ℕ) (nodes : List NodeState) : Type 0 where
  pub each : (row : ℕ) (l : Life) → slice_get lives row ≡ Some l → HasLife nodes (tree_key l.values row) (l.start + 1) (dead_of l.ending)
  pub only : (k v : ℕ) → lives_of nodes k v ≡ true → IsKeyOf lives k
  pub begun : (row : ℕ) (l : Life) → slice_get lives row ≡ Some l → l.start < version
  pub rows : (row : ℕ) (l : Life) → slice_get lives row ≡ Some l → IsRowLife l
  pub up_to : version ≤ count
  pub few : length lives ≤ count

-- the rows of the table end after they start
abbrev pub AreRowLives : List Event → ℕ → Type 0
AreRowLives events table = (row : ℕ) (l : Life) → slice_get (row_lives events table) row ≡ Some l → IsRowLife l

-- the tree, the rows and their values are those of the table after these events
pub record IsIndexOf (events : List Event) (table : ℕ) (index : Index) : Type 0 where
  pub rows : index.rows.items ≡ stored_rows events table
  pub kept : values_of index.kept.items ≡ stored_values events table
  pub tree : HasRows (row_lives events table) (length events) index.tree.version index.tree.nodes

-- they are the indexes of tables 0, 1, ..
pub record AreIndexes (events : List Event) (indexes : List Index) : Type 0 where
  pub each : (table : ℕ) (index : Index) → slice_get indexes table ≡ Some index → IsIndexOf events table index

-- the number of values in a row of each index
abbrev pub widths_of : List Index → List ℕ
widths_of indexes = map (λ (index : Index). index.kept.width) indexes

-- the number of columns of each table
abbrev pub columns_of : List Schema → List ℕ
columns_of tables = map (λ (schema : Schema). length schema.columns) tables

-- a history with its indexes
pub record IsDb (catalogue : Catalogue) (events : List Event) (indexes : List Index) : Type 0 where
  pub history : IsHistory catalogue events
  pub ordered : IsNonDecreasingBy time_of events
  pub few : length events ≤ 16777216
  pub tables : length indexes ≡ length catalogue.tables
  pub widths : widths_of indexes ≡ columns_of catalogue.tables
  pub indexed : AreIndexes events indexes

-- ---- one more event

-- the row of the table is open and started before the instant
abbrev pub IsOpenAt : List Event → ℕ → ℕ → ℕ → Type 0
IsOpenAt events table row at = IsSomeAnd (slice_get (row_lives events table) row) (λ (l : Life). (l.ending ≡ None) × (l.from < at))

-- the same for a row of one of the first n tables
abbrev pub CanEnd : ℕ → List Event → ℕ → ℕ → ℕ → Type 0
CanEnd tables events table row at = (table < tables) × IsOpenAt events table row at

-- what an index requires of an event: a key of 64 signed bits, or an open row
abbrev pub CanTake : List Event → Event → Type 0
CanTake events (Start t v at) = FitsSigned w64 (key_of v) × (at < FOREVER)
CanTake events (End t r at) = IsOpenAt events t r at × (at < FOREVER)

-- an event that an index of its table may take, as the event with this number
pub record IsNext (number : ℕ) (event : Event) (index : Index) : Type 0 where
  pub events : List Event
  pub counted : length events ≡ number
  pub is : IsIndexOf events (table_of event) index
  pub can : CanTake events event

-- the same of the indexes of all tables
pub record IsNextOf (number : ℕ) (event : Event) (indexes : List Index) : Type 0 where
  pub events : List Event
  pub counted : length events ≡ number
  pub are : AreIndexes events indexes
  pub can : CanTake events event

-- a row that the event starts has n values
abbrev pub HasWidth : ℕ → Event → Type 0
HasWidth width (Start t v at) = length v ≡ width
HasWidth width (End t r at) = ⊤

-- a row that the event starts has as many values as the other rows of its table
abbrev pub FitsIndexes : List Index → Event → Type 0
FitsIndexes indexes event = HasWidth (slice_index_or (widths_of indexes) (table_of event) 0) event

-- the key lives from the version on
pub record Begins (old new : TreeState) (key version : ℕ) : Type 0 where
  pub version_is : new.version ≡ version
  pub life : HasLife new.nodes key version now
  pub others : (k v : ℕ) → k ≢ key → lives_of new.nodes k v ≡ lives_of old.nodes k v

-- the key is dead from the version on
pub record Ends (old new : TreeState) (key version : ℕ) : Type 0 where
  pub version_is : new.version ≡ version
  pub life : (born : ℕ) → HasLife old.nodes key born now → HasLife new.nodes key born version
  pub others : (k v : ℕ) → k ≢ key → lives_of new.nodes k v ≡ lives_of old.nodes k v
