-- The ends of the rows so far, and room for the others.
use Rattle.std.proofs.Common.{◌≡◌, ◌≤◌, ◌+◌, length, map, take}
use Rattle.std.specs.Prelude.{vec_capacity, vec_len}
use Rattle.tq_base.specs.SortInputs.{state_of}
use Rattle.tq_agg.specs.Bounds.{end_in}
use Rattle.tq_agg.proofs.bounds.fill_ends.Given as goal

abbrev pub invariant-keys : goal.invariant-keys
invariant-keys l = record {
  ends : l.ends.items ≡ map (end_in (state_of l.sort_input) l.window) (take l.key-index l.keys);
  room : vec_len l.ends + length l.keys ≤ vec_capacity l.ends + l.key-index;
}
