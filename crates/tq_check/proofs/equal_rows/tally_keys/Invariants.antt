-- The counts so far, and those of the rows whose keys are still to come, are all counts.
use Rattle.std.proofs.Common.{◌≡◌, ◌≤◌, ◌+◌, ◌-◌, drop, length, map}
use Rattle.tq_base.specs.Keys.{key_row}
use Rattle.tq_base.specs.SortInputs.{state_of}
use Rattle.tq_check.specs.EqualRows.{meeting, overlapping}
use Rattle.tq_check.proofs.equal_rows.tally_keys.Given as goal

abbrev pub invariant-runs : goal.invariant-runs
invariant-runs l = record {
  within : l.start ≤ length l.keys;
  overlapping : l.overlapping + overlapping (map (key_row (state_of l.sort_input)) (drop l.start l.keys)) ≡ overlapping (map (key_row (state_of l.sort_input)) l.keys);
  meeting : l.meeting + meeting (map (key_row (state_of l.sort_input)) (drop l.start l.keys)) ≡ meeting (map (key_row (state_of l.sort_input)) l.keys);
  few_overlap : l.overlapping ≤ l.start;
  few_meet : l.meeting ≤ l.start;
}

abbrev pub decreases-runs : goal.decreases-runs
decreases-runs l = length l.keys - l.start
