-- The keys so far have the prefix, and the others are unchanged.
use Rattle.std.proofs.Common.{◌≡◌, ◌++◌, drop, map, take}
use Rattle.tq_base.specs.TieBreak.{with_prefix}
use Rattle.tq_base.proofs.tie_break.set_prefixes.Given as goal

abbrev pub invariant-keys : goal.invariant-keys
invariant-keys l = l.keys ≡ map (with_prefix l.prefix) (take l.key-index l.fn.keys) ++ drop l.key-index l.fn.keys
