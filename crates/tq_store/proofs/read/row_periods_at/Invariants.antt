-- The list has the keys so far, and room for the others.
use Rattle.std.proofs.Common.{◌≡◌, ◌≤◌, length, map, take}
use Rattle.std.specs.Prelude.{vec_capacity, vec_len}
use Rattle.tq_store.specs.Stored.{row_period_for}
use Rattle.tq_store.proofs.read.row_periods_at.Given as goal

abbrev pub invariant-keys : goal.invariant-keys
invariant-keys l = record {
  row_periods : l.row_periods.items ≡ map (row_period_for l.period) (take l.key-index l.keys);
  len : vec_len l.row_periods ≡ l.key-index;
  room : length l.keys ≤ vec_capacity l.row_periods;
}
