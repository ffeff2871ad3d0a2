-- The row that an end by values ends: the first open row with these values. This project's own.
use Rattle.std.specs.Prelude.{ℕ, List, length, Bool, Option, ◌==◌, ◌&&◌, nat_lt, position}
use Rattle.std.specs.Ordering.{eq_by_cmp}
use Rattle.tq_base.specs.declared.period.TheConstants.{FOREVER}
use Rattle.tq_base.specs.declared.value.Value.{Value}
use Rattle.tq_base.specs.ValueOrder.{values_cmp}
use Rattle.tq_event.specs.declared.event.Event.{Event}
use Rattle.tq_event.specs.History.{Row, rows_of}

-- whether the row is open, started before the instant, and has these values
abbrev pub is_open_like : List Value → ℕ → Row → Bool
is_open_like values at row = row.to == FOREVER && (nat_lt row.from at && eq_by_cmp values_cmp row.values values)

-- the number of the first such row of the table, after all events
abbrev pub open_row : List Event → ℕ → List Value → ℕ → Option ℕ
open_row history table values at = position (is_open_like values at) (rows_of history (length history) table)
