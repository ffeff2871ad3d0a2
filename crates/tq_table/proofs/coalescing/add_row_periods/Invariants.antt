-- The row was added once for each period so far.
use Rattle.std.proofs.Common.{◌≡◌, ◌++◌, map, take}
use Rattle.tq_table.specs.Groups.{row_period_at}
use Rattle.tq_table.proofs.coalescing.add_row_periods.Given as goal

abbrev pub invariant-periods : goal.invariant-periods
invariant-periods l = l.table ≡ l.initial.table ++ map (row_period_at l.row) (take l.period-index l.periods)
