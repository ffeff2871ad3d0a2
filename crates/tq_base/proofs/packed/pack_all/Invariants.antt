-- The keys so far are packed, and there is room for the others.
use Rattle.std.proofs.Common.{◌≡◌, ◌≤◌, ◌+◌, length, map, take}
use Rattle.std.specs.Prelude.{vec_capacity, vec_len, All}
use Rattle.tq_base.specs.Packed.{pack, IsOfKey}
use Rattle.tq_base.proofs.packed.pack_all.Given as goal

abbrev pub invariant-keys : goal.invariant-keys
invariant-keys l = record {
  packed : l.all.items ≡ map (pack l.corner) (take l.key-index l.keys);
  of_keys : All (IsOfKey l.corner) l.all.items;
  room : vec_len l.all + length l.keys ≤ vec_capacity l.all + l.key-index;
}
