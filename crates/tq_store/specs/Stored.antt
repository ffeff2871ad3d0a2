-- What is known of a row from the events that start and end it. This project's own.
use Rattle.std.specs.Prelude.{◌≡◌, ℕ, ◌%◌, ◌<◌, ◌&&◌, ◌==◌, Bool, false, List, [], map, slice_get, slice_index_or, nat_le, nat_lt, if◌then◌else◌, Option, Some, None, IsSomeAnd, IsTrue, ⊤}
use Rattle.std.specs.Option.{option_map_or}
use Rattle.std.specs.Ordering.{eq_by_cmp}
use Rattle.tq_base.specs.declared.period.Period.{Period}
use Rattle.tq_base.specs.declared.period.TheConstants.{FOREVER}
use Rattle.tq_base.specs.declared.relation.RowPeriod.{RowPeriod}
use Rattle.tq_base.specs.declared.value.Value.{Value}
use Rattle.tq_base.specs.Periods.{holds}
use Rattle.tq_base.specs.ValueOrder.{values_cmp}
use Rattle.tq_event.specs.declared.event.Event.{Event}
use Rattle.tq_event.specs.declared.event.Event.TheVariants.{Start, End}
use Rattle.tq_event.specs.History.{Row}
use Rattle.tq_store.specs.declared.index.RowEvents.{RowEvents}
use Rattle.tq_store.specs.declared.row.Row as declared

-- how contracts see the code's row
abbrev pub row_view : declared.Row → Row
row_view r = record { number = r.row; values = r.values; from = r.period.start; to = r.period.end }

abbrev pub values_in : Event → List Value
values_in (Start t v at) = v
values_in (End t r at) = []

-- the values of the row that the event with this number starts
abbrev pub values_at : List Event → ℕ → List Value
values_at events number = option_map_or values_in (slice_get events number) []

-- the event starts a row
abbrev pub IsStart : Event → Type 0
IsStart (Start t v at) = ⊤
IsStart (End t r at) = ⊥

-- the row's first event starts a row that ends after it starts
pub record IsStored (events : List Event) (row : RowEvents) : Type 0 where
  pub starts : IsSomeAnd (slice_get events row.start) IsStart
  pub lasts : row.from < row.to

-- the end of a row as of the first n events, if the event with this number ends it at this time
abbrev pub end_as_of : ℕ → Option ℕ → ℕ → ℕ
end_as_of n None at = FOREVER
end_as_of n (Some e) at = if nat_lt e n then at else FOREVER

-- the row with this number as of the first n events
abbrev pub stored_row : List Event → ℕ → ℕ → RowEvents → Row
stored_row events n number row =
    record { number = number; values = values_at events row.start; from = row.from; to = end_as_of n row.end row.to }

-- the key is the tree key of a row
abbrev pub IsReadable : List Event → List RowEvents → ℕ → Type 0
IsReadable events rows key = IsSomeAnd (slice_get rows (key % 4294967296)) (IsStored events)

-- the row of the tree key as of the first n events
abbrev pub row_of_key : List Event → List RowEvents → ℕ → ℕ → Row
row_of_key events rows n key =
    stored_row events n (key % 4294967296) (slice_index_or rows (key % 4294967296) (record { start = 0; end = None; from = 0; to = 0; key = 0 }))

-- the key is the tree key of a row that ends after it starts
abbrev pub IsLasting : List RowEvents → ℕ → Type 0
IsLasting rows key = IsSomeAnd (slice_get rows (key % 4294967296)) (λ (row : RowEvents). row.from < row.to)

-- a row's number, and the start and end of its period
pub record Times : Type 0 where
  pub number : ℕ
  pub from : ℕ
  pub to : ℕ

-- the times of a row number with a period
abbrev pub times_of_row_period : RowPeriod → Times
times_of_row_period line = record { number = line.row; from = line.period.start; to = line.period.end }

-- the times of the row of the tree key, as of the first n events
abbrev pub times_of_key : List RowEvents → ℕ → ℕ → Times
times_of_key rows n key =
    let row = row_of_key [] rows n key in record { number = row.number; from = row.from; to = row.to }

-- the row of the tree key, as of the first n events, is valid at some instant of the period
pub record IsMet (rows : List RowEvents) (n : ℕ) (period : Period) (key : ℕ) : Type 0 where
  pub begins : (times_of_key rows n key).from < period.end
  pub lasts : period.start < (times_of_key rows n key).to

-- a row's number, and whether it is valid at an instant
pub record RowValidity : Type 0 where
  pub number : ℕ
  pub valid : Bool

-- the validity of a row with these times at the instant
abbrev pub times_at : ℕ → Times → RowValidity
times_at t times = record { number = times.number; valid = nat_le times.from t && nat_lt t times.to }

-- the validity of a row number with a period at the instant
abbrev pub row_validity_at : ℕ → RowPeriod → RowValidity
row_validity_at t line = times_at t (times_of_row_period line)

-- the row number of a tree key, with the period
abbrev pub row_period_for : Period → ℕ → RowPeriod
row_period_for period key = record { row = key % 4294967296; period = period }

-- at each instant of the period the row numbers are valid exactly when the rows of the tree keys are, as of the first n
-- events
abbrev pub HaveSameValidity : List RowEvents → ℕ → Period → List ℕ → List RowPeriod → Type 0
HaveSameValidity rows n period keys row_periods =
    (t : ℕ) → IsTrue (holds period t) → map (row_validity_at t) row_periods ≡ map (λ key. times_at t (times_of_key rows n key)) keys

-- whether the event starts a row of these values before the instant
abbrev pub starts_like : List Value → ℕ → Event → Bool
starts_like values at (Start t v from) = nat_lt from at && eq_by_cmp values_cmp v values
starts_like values at (End t r ended) = false

-- whether the event starts a row of the table
abbrev pub starts_of : ℕ → Event → Bool
starts_of table (Start t v at) = t == table
starts_of table (End t r at) = false

-- whether the event ends the row
abbrev pub ends_row : ℕ → ℕ → Event → Bool
ends_row table row (Start t v at) = false
ends_row table row (End t r at) = t == table && r == row
