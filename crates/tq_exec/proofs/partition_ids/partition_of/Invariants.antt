-- As many of the cuts so far as are not above the rank.
use Rattle.std.proofs.Common.{◌≡◌, ◌≤◌, filter, length, take}
use Rattle.std.specs.Prelude.{nat_le}
use Rattle.tq_exec.proofs.partition_ids.partition_of.Given as goal

abbrev pub invariant-cuts : goal.invariant-cuts
invariant-cuts l = record {
  so_far : l.partition ≡ length (filter (λ cut. nat_le cut l.prefix) (take l.cut-index l.cuts));
  few : l.partition ≤ l.cut-index;
}
