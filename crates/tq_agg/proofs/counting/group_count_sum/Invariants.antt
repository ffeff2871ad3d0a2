-- The groups before the place are counted; no values are in the scratch memory.
use Rattle.std.proofs.Common.{◌≡◌, ◌+◌, ◌-◌, [], length, map, vec_len}
use Rattle.tq_base.specs.SortInputs.{state_of}
use Rattle.tq_base.specs.Keys.{key_row}
use Rattle.tq_agg.proofs.Grouping.{Grouping}
use Rattle.tq_agg.proofs.counting.group_count_sum.Given as goal

abbrev pub invariant-groups : goal.invariant-groups
invariant-groups l = record {
  empty : l.scratch.values.items ≡ [];
  width : l.out.width ≡ length l.keys + length l.summands.items;
  grouping : Grouping l.keys l.summands.items l.window (map (key_row (state_of l.sort_input)) l.sorted.items) l.start l.out.items;
}

abbrev pub decreases-groups : goal.decreases-groups
decreases-groups l = vec_len l.sorted - l.start
