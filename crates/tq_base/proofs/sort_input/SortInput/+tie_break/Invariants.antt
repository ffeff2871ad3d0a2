-- The runs so far are sorted. A run is sorted at one level by keys that get their prefixes at a lower one.
use Rattle.std.proofs.Common.{length, ◌-◌, ◌+◌, ◌*◌}
use Rattle.tq_base.specs.SortInputs.{state_of}
use Rattle.tq_base.specs.TieBreak.{RunsDone, SameKeys}
use Rattle.tq_base.proofs.sort_input.SortInput.+tie_break.Given as goal

abbrev pub decreases-sort_level : goal.decreases-sort_level
decreases-sort_level l = l.levels * 3 + 2

abbrev pub decreases-sort_next : goal.decreases-sort_next
decreases-sort_next l = l.levels * 3 + 1

abbrev pub decreases-sort_run : goal.decreases-sort_run
decreases-sort_run l = l.levels * 3

abbrev pub invariant-sort_level-runs : goal.invariant-sort_level-runs
invariant-sort_level-runs l = record {
  same : SameKeys l.fn.keys l.keys;
  done : RunsDone (state_of l.self) l.place l.offset l.keys l.start;
}

abbrev pub decreases-sort_level-runs : goal.decreases-sort_level-runs
decreases-sort_level-runs l = length l.initial.keys - l.start
