-- The rows so far, cut to the window, are appended.
use Rattle.std.proofs.Common.{List, map, take}
use Rattle.tq_base.specs.declared.value.Value.{Value}
use Rattle.tq_base.specs.Keys.{held}
use Rattle.tq_base.specs.SortInputs.{state_of}
use Rattle.tq_ops.specs.Differences.{rows_at_periods, AreRowPeriods, AreOfValues}
use Rattle.tq_ops.proofs.Changing.{Cut}
use Rattle.tq_ops.proofs.difference.add_cut.Given as goal

abbrev pub invariant-rows : goal.invariant-rows
invariant-rows l = record {
  within : AreRowPeriods (state_of l.sort_input) l.initial.lines.items → AreRowPeriods (state_of l.sort_input) l.lines.items;
  cut : (v : List Value) → AreOfValues v (map (held (state_of l.sort_input)) l.group)
      → Cut l.window (take l.place (map (held (state_of l.sort_input)) l.group)) v (rows_at_periods (state_of l.sort_input) l.initial.lines.items) (rows_at_periods (state_of l.sort_input) l.lines.items);
}
