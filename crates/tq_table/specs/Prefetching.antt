-- The periods of the rows of keys, from one key on. This project's own.
use Rattle.std.specs.Prelude.{◌≡◌, List, drop, length, map, slice_index_or, take}
use Rattle.tq_base.specs.declared.period.Period.{Period}
use Rattle.tq_base.specs.declared.sort_input.SortKey.{SortKey}
use Rattle.tq_base.specs.Keys.{no_row}
use Rattle.tq_table.specs.declared.prefetched_periods.PrefetchedPeriods.{PrefetchedPeriods}

-- the periods of the rows of the keys
abbrev pub periods_of_keys : List Period → List SortKey → List Period
periods_of_keys periods keys = map (λ (k : SortKey). slice_index_or periods k.row no_row.period) keys

-- the prefetched periods are those of consecutive keys, from `from` on
abbrev pub ArePrefetched : List Period → List SortKey → PrefetchedPeriods → Type 0
ArePrefetched periods keys ahead = ahead.periods.items ≡ take (length ahead.periods.items) (drop ahead.from (periods_of_keys periods keys))
