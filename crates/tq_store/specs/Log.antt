-- The events of a history in 16 bytes each. The values of a row are stored once, in the index of its table. This project's
-- own.
use Rattle.std.specs.Prelude.{◌≡◌, ℕ, ◌<◌, ◌≤◌, true, false, if◌then◌else◌, List, [], map, length, slice_get, ◌==◌, ℤ, Option, Some, None, IsSomeAnd, All}
use Rattle.std.specs.Option.{option_map_or}
use Rattle.tq_base.specs.declared.catalogue.Catalogue.{Catalogue}
use Rattle.tq_base.specs.declared.value.Value.{Value}
use Rattle.tq_base.specs.KeyRanges.{key_of}
use Rattle.tq_base.specs.Relations.{values_at_number}
use Rattle.tq_event.specs.declared.event.Event.{Event}
use Rattle.tq_event.specs.declared.event.Event.TheVariants.{Start, End}
use Rattle.tq_store.specs.declared.index.Index.{Index}
use Rattle.tq_store.specs.declared.log.LoggedEvent.{LoggedEvent}
use Rattle.tq_store.specs.Index.{IsDb, widths_of}

-- the values of the row with this number of the table
abbrev pub row_values : List Index → ℕ → ℕ → List Value
row_values indexes table row = option_map_or (λ (index : Index). values_at_number index.kept.items row) (slice_get indexes table) []

-- the event, with the values that the index of its table has
abbrev pub event_of : List Index → LoggedEvent → Event
event_of indexes e = if e.is_end then End e.table e.row e.at else Start e.table (row_values indexes e.table e.row) e.at

-- all events
abbrev pub logged : List Index → List LoggedEvent → List Event
logged indexes log = map (event_of indexes) log

-- the index of its table has the row that the event starts
abbrev pub IsLogged : List Index → LoggedEvent → Type 0
IsLogged indexes e = e.is_end ≡ false → IsSomeAnd (slice_get indexes e.table) (λ (index : Index). e.row < length index.kept.items)

-- so it is for all events, which are few; columns have numbers of 32 bits
pub record AreLogged (indexes : List Index) (log : List LoggedEvent) : Type 0 where
  pub few : length log ≤ 16777216
  pub narrow : All (λ width. width ≤ 4294967295) (widths_of indexes)
  pub each : (i : ℕ) (e : LoggedEvent) → slice_get log i ≡ Some e → IsLogged indexes e

-- the events are a history with its indexes
pub record IsLoggedDb (catalogue : Catalogue) (log : List LoggedEvent) (indexes : List Index) : Type 0 where
  pub db : IsDb catalogue (logged indexes log) indexes
  pub stored : AreLogged indexes log

-- a history with these indexes stores the event so, as its next event
abbrev pub IsLoggedAs : List Index → Event → LoggedEvent → Type 0
IsLoggedAs indexes (Start t v at) e =
    (e.is_end ≡ false) × (e.table ≡ t) × (e.at ≡ at) × IsSomeAnd (slice_get indexes t) (λ (index : Index). e.row ≡ length index.kept.items)
IsLoggedAs indexes (End t r at) e = (e.is_end ≡ true) × (e.table ≡ t) × (e.at ≡ at) × (e.row ≡ r)

-- the key of the row that the event starts, if it is one of the table
abbrev pub start_key : ℕ → Event → Option ℤ
start_key table (Start t v at) = if t == table then Some (key_of v) else None
start_key table (End t r at) = None
