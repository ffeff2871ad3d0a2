-- The covers so far, and those of the last one and the keys to come, are all covers.
use Rattle.std.proofs.Common.{◌≡◌, ◌++◌, drop}
use Rattle.tq_base.specs.SortInputs.{state_of}
use Rattle.tq_check.specs.Covers.{cover_of, covers_after}
use Rattle.tq_check.proofs.covers.covers_after.Given as goal

abbrev pub invariant-keys : goal.invariant-keys
invariant-keys l = l.covers.items ++ covers_after (state_of l.sort_input) l.last (drop l.key-index l.rest) ≡ covers_after (state_of l.sort_input) (cover_of (state_of l.sort_input) l.fn.first) l.fn.rest
