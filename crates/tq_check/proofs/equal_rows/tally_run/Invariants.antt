-- The counts so far, and those still to come from the greatest end so far, are all counts.
use Rattle.std.proofs.Common.{◌≡◌, ◌≤◌, ◌+◌, drop, map}
use Rattle.tq_base.specs.Keys.{key_row}
use Rattle.tq_base.specs.SortInputs.{state_of}
use Rattle.tq_check.specs.Runs.{adjacent_starts, overlapping_starts}
use Rattle.tq_check.proofs.equal_rows.tally_run.Given as goal

abbrev pub invariant-places : goal.invariant-places
invariant-places l = record {
  overlapping : l.overlapping + overlapping_starts l.reach (map (key_row (state_of l.sort_input)) (drop l.place l.run)) ≡ overlapping_starts 0 (map (key_row (state_of l.sort_input)) l.run);
  meeting : l.meeting + adjacent_starts l.reach (map (key_row (state_of l.sort_input)) (drop l.place l.run)) ≡ adjacent_starts 0 (map (key_row (state_of l.sort_input)) l.run);
  few_overlap : l.overlapping ≤ l.place;
  few_meet : l.meeting ≤ l.place;
}
