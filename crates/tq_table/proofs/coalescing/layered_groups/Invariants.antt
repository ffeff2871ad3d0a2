-- The rows are those in the table, as layers, and those whose keys are still to come. The prefetched periods are those
-- of keys.
use Rattle.std.proofs.Common.{◌-◌, ◌≤◌, ◌<◌, All, length, map, drop}
use Rattle.tq_base.specs.declared.fragment.Fragment.{Fragment}
use Rattle.tq_base.specs.declared.relation.RowPeriod.{RowPeriod}
use Rattle.tq_base.specs.Groups.{Grouping}
use Rattle.tq_base.specs.Keys.{key_row}
use Rattle.tq_base.specs.SortInputs.{state_of}
use Rattle.tq_base.specs.Relations.{row_period_of}
use Rattle.tq_table.specs.Prefetching.{ArePrefetched}
use Rattle.tq_table.proofs.coalescing.layered_groups.Given as goal

abbrev pub invariant-groups : goal.invariant-groups
invariant-groups l = record {
  within : l.start ≤ length l.fn.keys;
  stand : All (λ (line : RowPeriod). line.row < length l.fn.sort_input.left.now.items) l.table;
  from : l.ahead.from ≤ l.start;
  ahead : ArePrefetched (map (λ (row : Fragment). row.period) l.fn.sort_input.left.now.items) l.fn.keys l.ahead;
  grouping : Grouping l.fn.sort_input.left.now.items (map (key_row (state_of l.fn.sort_input)) (drop l.start l.fn.keys)) (map (row_period_of l.fn.sort_input.left.now.items) l.table);
}

abbrev pub decreases-groups : goal.decreases-groups
decreases-groups l = length l.fn.keys - l.start
