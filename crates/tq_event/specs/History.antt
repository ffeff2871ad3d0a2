-- Histories: the rows of a table as of the first n events, and which values are valid at an instant. After Snodgrass's
-- valid-time tables; that a history is a list of events is this project's own.
use Rattle.std.specs.Prelude.{◌≡◌, ℕ, ◌+◌, ◌-◌, ◌<◌, ◌≤◌, List, [], ◌∷◌, ◌++◌, length, take, map, filter, if◌then◌else◌, ◌==◌, ◌&&◌, nat_le, nat_lt, Contains, slice_get, IfSome, IsSomeAnd}
use Rattle.tq_base.specs.declared.value.Value.{Value}
use Rattle.tq_base.specs.declared.period.TheConstants.{FOREVER}
use Rattle.tq_base.specs.declared.catalogue.Catalogue.{Catalogue}
use Rattle.tq_base.specs.declared.catalogue.Schema.{Schema}
use Rattle.tq_base.specs.Catalogues.{Fit}
use Rattle.tq_event.specs.declared.event.Event.{Event}
use Rattle.tq_event.specs.declared.event.Event.TheVariants.{Start, End}

-- a row: its number in its table, its values, and the period from `from` to `to`
pub record Row : Type 0 where
  pub number : ℕ
  pub values : List Value
  pub from : ℕ
  pub to : ℕ

-- the end of the row by these events; `FOREVER` if none of them ends it
abbrev pub end_of : ℕ → ℕ → List Event → ℕ
end_of table row [] = FOREVER
end_of table row (Start t v at ∷ events) = end_of table row events
end_of table row (End t r at ∷ events) = if t == table && r == row then at else end_of table row events

-- the rows of a table that these events start, numbered from `next` on, with the ends that these events give them
abbrev pub rows_from : ℕ → ℕ → List Event → List Row
rows_from table next [] = []
rows_from table next (Start t v at ∷ events) =
    if t == table
    then record { number = next; values = v; from = at; to = end_of table next events } ∷ rows_from table (next + 1) events
    else rows_from table next events
rows_from table next (End t r at ∷ events) = rows_from table next events

-- the rows of a table as of the first n events: ends that come later are not known yet
abbrev pub rows_of : List Event → ℕ → ℕ → List Row
rows_of history n table = rows_from table 0 (take n history)

-- the values of the rows that are valid at the instant, as of the first n events
abbrev pub valid_at : List Event → ℕ → ℕ → ℕ → List (List Value)
valid_at history n table t =
    map (λ row. row.values) (filter (λ row. nat_le row.from t && nat_lt t row.to) (rows_of history n table))

-- ---- which lists of events are histories

abbrev pub time_of : Event → ℕ
time_of (Start t v at) = at
time_of (End t r at) = at

-- the time is not before that of the last event
abbrev pub IsNotBefore : List Event → ℕ → Type 0
IsNotBefore history at = IfSome (slice_get history (length history - 1)) (λ last. time_of last ≤ at)

-- the row is open and started before the instant
abbrev pub IsOpenBefore : List Event → ℕ → ℕ → ℕ → Type 0
IsOpenBefore history table number at =
    (row : Row) × Contains (rows_of history (length history) table) row × (row.number ≡ number) × (row.to ≡ FOREVER) × (row.from < at)

-- an event requires of the tables and rows before it that its table accepts the values, or that its row can end
abbrev pub CanHappen : Catalogue → List Event → Event → Type 0
CanHappen catalogue history (Start t v at) = IsSomeAnd (slice_get catalogue.tables t) (λ (s : Schema). Fit s.columns v)
CanHappen catalogue history (End t r at) = (t < length catalogue.tables) × IsOpenBefore history t r at

-- the event may come next in the history
abbrev pub IsAdmissible : Catalogue → List Event → Event → Type 0
IsAdmissible catalogue history event = IsNotBefore history (time_of event) × CanHappen catalogue history event

-- each event is admissible after the events before it
abbrev pub IsHistory : Catalogue → List Event → Type 0
IsHistory catalogue events =
    (before : List Event) (event : Event) (after : List Event) → events ≡ before ++ event ∷ after → IsAdmissible catalogue before event

-- the values that are valid as of the first n events stay the same while a history grows
abbrev pub PrefixLaw : Type 0
PrefixLaw = (history more : List Event) (n table t : ℕ) → n ≤ length history → valid_at (history ++ more) n table t ≡ valid_at history n table t
