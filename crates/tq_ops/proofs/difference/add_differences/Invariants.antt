-- The groups before the position are counted.
use Rattle.std.proofs.Common.{◌-◌, length, map}
use Rattle.tq_base.specs.Keys.{held}
use Rattle.tq_base.specs.SortInputs.{state_of}
use Rattle.tq_ops.specs.Differences.{rows_at_periods, AreRowPeriods}
use Rattle.tq_ops.proofs.Grouping.{Grouping}
use Rattle.tq_ops.proofs.difference.add_differences.Given as goal

abbrev pub invariant-groups : goal.invariant-groups
invariant-groups l = record {
  within : AreRowPeriods (state_of l.sort_input) l.lines.items;
  grouping : Grouping l.window (map (held (state_of l.sort_input)) l.keys) l.start (rows_at_periods (state_of l.sort_input) l.lines.items);
}

abbrev pub decreases-groups : goal.decreases-groups
decreases-groups l = length l.keys - l.start
