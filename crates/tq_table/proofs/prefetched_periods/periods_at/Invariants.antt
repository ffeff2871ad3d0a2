-- The periods of the keys so far are in the list, and there is room for the others.
use Rattle.std.proofs.Common.{◌≡◌, ◌≤◌, ◌+◌, get_or, length, map, take}
use Rattle.std.specs.Prelude.{vec_capacity, vec_len}
use Rattle.tq_base.specs.Keys.{no_row}
use Rattle.tq_table.proofs.prefetched_periods.periods_at.Given as goal

abbrev pub invariant-keys : goal.invariant-keys
invariant-keys l = record {
  chosen : l.chosen.items ≡ map (λ k. get_or l.periods k.row no_row.period) (take l.key-index l.keys);
  room : vec_len l.chosen + length l.keys ≤ vec_capacity l.chosen + l.key-index;
}
