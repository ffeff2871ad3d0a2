-- The stored values so far were moved to the list, and there is room for the remaining ones.
use Rattle.std.proofs.Common.{◌≡◌, ◌≤◌, ◌+◌, ◌++◌, drop, length, take}
use Rattle.std.specs.Prelude.{vec_capacity, vec_len}
use Rattle.tq_base.specs.Slots.{kept_of}
use Rattle.tq_base.proofs.dense.move_stored.Given as goal

abbrev pub invariant-slots : goal.invariant-slots
invariant-slots l = record {
  len : length l.row.items ≡ length l.slots;
  rest : drop l.place l.row.items ≡ drop l.place l.initial.row.items;
  values : l.values.items ≡ l.initial.values.items ++ kept_of (take l.place l.slots) (take l.place l.initial.row.items);
  room : vec_len l.values + length (kept_of (drop l.place l.slots) (drop l.place l.initial.row.items)) ≤ vec_capacity l.values;
}
