-- There is at most one cut less than partitions.
use Rattle.std.proofs.Common.{◌≤◌, ◌+◌, length}
use Rattle.tq_exec.proofs.partition_ids.spaced_cut_points.Given as goal

abbrev pub invariant-partitions : goal.invariant-partitions
invariant-partitions l = record {
  upto : length l.cuts.items + 1 ≤ l.partition;
  few : l.partition ≤ 64;
}
