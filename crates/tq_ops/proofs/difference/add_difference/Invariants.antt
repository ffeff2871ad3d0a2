-- The row is appended once for each period so far.
use Rattle.std.proofs.Common.{◌≡◌, ◌++◌, take}
use Rattle.tq_base.specs.Keys.{key_row}
use Rattle.tq_base.specs.SortInputs.{state_of}
use Rattle.tq_base.specs.Layering.{rows_of}
use Rattle.tq_ops.specs.Differences.{rows_at_periods, AreRowPeriods}
use Rattle.tq_ops.proofs.difference.add_difference.Given as goal

abbrev pub invariant-periods : goal.invariant-periods
invariant-periods l = record {
  within : AreRowPeriods (state_of l.sort_input) l.initial.lines.items → AreRowPeriods (state_of l.sort_input) l.lines.items;
  rows : rows_at_periods (state_of l.sort_input) l.lines.items
      ≡ rows_at_periods (state_of l.sort_input) l.initial.lines.items ++ rows_of (key_row (state_of l.sort_input) l.first).values (take l.period-index l.period-items);
}
