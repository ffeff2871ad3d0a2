-- The rows that are valid at an instant, computed event by event.
use Rattle.std.proofs.Common.{◌≡◌, ℕ, ◌&&◌, List, length, map, take, min, nat_le, nat_lt, ap}
use Rattle.std.specs.Prelude.{filter}
use Rattle.std.proofs.lemmas.List.{take_min}
use Rattle.tq_event.specs.declared.event.Event.{Event}
use Rattle.tq_event.specs.History.{rows_from, valid_at}
use Rattle.tq_agg.specs.Grouping.{Row}

-- the values of the table's rows that these events start and that are valid at instant `t`; the rows are numbered from
-- `next` on
abbrev pub valid_from : ℕ → ℕ → ℕ → List Event → List Row
valid_from table t next events =
    map (λ row. row.values) (filter (λ row. nat_le row.from t && nat_lt t row.to) (rows_from table next events))

-- the rows that the first n events start
pub valid_from-first : (table t n : ℕ) (events : List Event) → valid_from table t 0 (take (min n (length events)) events) ≡ valid_at events n table t
valid_from-first table t n events = ap (valid_from table t 0) (take_min n events)
