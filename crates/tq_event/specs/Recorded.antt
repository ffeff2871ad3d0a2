-- A history with an index that decides quickly whether an event may follow: for each table, the start of each row that
-- can still end. This project's own.
use Rattle.std.specs.Prelude.{◌≡◌, ℕ, ◌<◌, List, [], ◌∷◌, ◌++◌, length, map, All, slice_get, slice_index_or, slice_set, IsSomeAnd, Option, Some, None, if◌then◌else◌, ◌==◌, nat_lt}
use Rattle.tq_base.specs.declared.catalogue.Catalogue.{Catalogue}
use Rattle.tq_base.specs.declared.catalogue.Schema.{Schema}
use Rattle.tq_base.specs.declared.value.Value.{Value}
use Rattle.tq_base.specs.Catalogues.{Fit}
use Rattle.tq_base.specs.declared.period.TheConstants.{FOREVER}
use Rattle.tq_event.specs.declared.event.Event.{Event}
use Rattle.tq_event.specs.declared.event.Event.TheVariants.{Start, End}
use Rattle.tq_event.specs.History.{IsHistory, Row, rows_from, time_of}

-- a history: the catalogue, and the events in order
pub record Recorded : Type 0 where
  pub catalogue : Catalogue
  pub events : List Event

-- the start of the row, unless it has ended
abbrev pub open_start : Row → Option ℕ
open_start row = if row.to == FOREVER then Some row.from else None

-- the same for each row of a table, numbered from the given number on
abbrev pub open_starts : ℕ → ℕ → List Event → List (Option ℕ)
open_starts table next events = map open_start (rows_from table next events)

-- the row of the table is open and started before the instant
abbrev pub CanEnd : List (List (Option ℕ)) → ℕ → ℕ → ℕ → Type 0
CanEnd starts table row at =
    IsSomeAnd (slice_get starts table) (λ rows. IsSomeAnd (slice_get rows row) (λ start. IsSomeAnd start (λ from. from < at)))

-- the open starts of the event's table after the event
abbrev pub after_event : Event → List (Option ℕ) → List (Option ℕ)
after_event (Start table values at) starts = starts ++ Some at ∷ []
after_event (End table row at) starts = slice_set starts row None

abbrev pub table_of : Event → ℕ
table_of (Start table values at) = table
table_of (End table row at) = table

-- the open starts of all tables after the event
abbrev pub noted : Event → List (List (Option ℕ)) → List (List (Option ℕ))
noted event starts = slice_set starts (table_of event) (after_event event (slice_index_or starts (table_of event) []))

-- the catalogue has the table, and its columns accept the values
abbrev pub HasTable : Catalogue → ℕ → List Value → Type 0
HasTable catalogue table values = IsSomeAnd (slice_get catalogue.tables table) (λ (s : Schema). Fit s.columns values)

-- for each table, the starts of the rows that the events leave open
pub record AreStarts (tables : ℕ) (events : List Event) (starts : List (List (Option ℕ))) : Type 0 where
  pub each : (table : ℕ) → slice_get starts table ≡ (if nat_lt table tables then Some (open_starts table 0 events) else None)
  pub finite : All (λ e. time_of e < FOREVER) events

-- a history, with the starts of its open rows
pub record IsRecorded (catalogue : Catalogue) (events : List Event) (starts : List (List (Option ℕ))) : Type 0 where
  pub history : IsHistory catalogue events
  pub open_rows : AreStarts (length catalogue.tables) events starts
