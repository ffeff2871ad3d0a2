-- The keys so far have the prefixes of their remaining values, and the others are unchanged.
use Rattle.std.proofs.Common.{◌≡◌, ◌++◌, All, drop, map, take}
use Rattle.tq_base.specs.SortInputs.{state_of}
use Rattle.tq_base.specs.TieBreak.{with_next_prefix, HasNextPrefix}
use Rattle.tq_base.proofs.sort_input.SortInput.next_prefixes.Given as goal

abbrev pub invariant-keys : goal.invariant-keys
invariant-keys l = record {
  keys : l.keys ≡ map (with_next_prefix (state_of l.self) l.place l.offset) (take l.number l.fn.keys) ++ drop l.number l.fn.keys;
  prefixes : All (HasNextPrefix (state_of l.self) l.place l.offset) (take l.number l.keys);
}
