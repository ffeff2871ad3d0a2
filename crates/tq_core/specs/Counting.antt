-- The number of rows that start: the answer of the oracle in the tests.
use Rattle.std.specs.Prelude.{ℕ, Bool, true, false, List, count_by}
use Rattle.tq_event.specs.declared.event.Event.{Event}
use Rattle.tq_event.specs.declared.event.Event.TheVariants.{Start, End}

abbrev pub starts_row : Event → Bool
starts_row (Start table values at) = true
starts_row (End table row at) = false

abbrev pub start_count : List Event → ℕ
start_count events = count_by starts_row events
