-- The list has the periods of the keys so far, and room for the others.
use Rattle.std.proofs.Common.{◌≡◌, ◌≤◌, ◌+◌, length, take}
use Rattle.std.specs.Prelude.{vec_capacity, vec_len}
use Rattle.tq_base.specs.SortInputs.{state_of}
use Rattle.tq_ops.specs.Differences.{periods_on}
use Rattle.tq_ops.proofs.difference.periods_of.Given as goal

abbrev pub invariant-keys : goal.invariant-keys
invariant-keys l = record {
  periods : l.periods.items ≡ periods_on (state_of l.sort_input) (take l.key-index l.keys);
  room : vec_len l.periods + length l.keys ≤ vec_capacity l.periods + l.key-index;
}
