-- Versions of a history: event number i, counted from 0, leads from version i to version i + 1. Defines the version at
-- an instant, and the events that start and end each row. After Becker, Gschwind, Ohler, Seeger and Widmayer 1996; that
-- a version is a count of events is this project's own.
use Rattle.std.specs.Prelude.{ℕ, ◌+◌, List, [], ◌∷◌, take, count_by, if◌then◌else◌, ◌==◌, ◌&&◌, nat_le, slice_get, Option, Some, None}
use Rattle.std.specs.Option.{option_map_or}
use Rattle.tq_base.specs.declared.value.Value.{Value}
use Rattle.tq_event.specs.declared.event.Event.{Event}
use Rattle.tq_event.specs.declared.event.Event.TheVariants.{Start, End}
use Rattle.tq_event.specs.History.{time_of}

-- how many of the first n events are not later than the instant
abbrev pub version_at : List Event → ℕ → ℕ → ℕ
version_at history n t = count_by (λ e. nat_le (time_of e) t) (take n history)

-- an event that ends a row: its number and its time
pub record Ending : Type 0 where
  pub event : ℕ
  pub at : ℕ

-- a row's values, the number and the time of the event that starts it, and the event that ends it, if any
pub record Life : Type 0 where
  pub values : List Value
  pub start : ℕ
  pub from : ℕ
  pub ending : Option Ending

-- the event among these that ends the row; the first of them has the given number
abbrev pub ending_of : ℕ → ℕ → ℕ → List Event → Option Ending
ending_of table row number [] = None
ending_of table row number (Start t v at ∷ events) = ending_of table row (number + 1) events
ending_of table row number (End t r at ∷ events) =
    if t == table && r == row then Some (record { event = number; at = at }) else ending_of table row (number + 1) events

-- the lives of the rows of a table that these events start. The first event has the given number, and the rows are
-- numbered from `next` on.
abbrev pub row_lives_from : ℕ → ℕ → ℕ → List Event → List Life
row_lives_from table next number [] = []
row_lives_from table next number (Start t v at ∷ events) =
    if t == table
    then record { values = v; start = number; from = at; ending = ending_of table next (number + 1) events } ∷ row_lives_from table (next + 1) (number + 1) events
    else row_lives_from table next (number + 1) events
row_lives_from table next number (End t r at ∷ events) = row_lives_from table next (number + 1) events

-- the lives of the rows of a table, in the order of the rows' numbers
abbrev pub row_lives : List Event → ℕ → List Life
row_lives history table = row_lives_from table 0 0 history

-- the first version in which the row of the table exists; 0 if there is no such row
abbrev pub birth_of : List Event → ℕ → ℕ → ℕ
birth_of history table row = option_map_or (λ (l : Life). l.start + 1) (slice_get (row_lives history table) row) 0
