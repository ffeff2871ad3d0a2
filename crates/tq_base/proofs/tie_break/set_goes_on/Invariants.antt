-- The keys so far have the run start `GoesOn`, and the others are unchanged.
use Rattle.std.proofs.Common.{◌≡◌, ◌++◌, drop, map, take}
use Rattle.tq_base.specs.TieBreak.{goes_on}
use Rattle.tq_base.proofs.tie_break.set_goes_on.Given as goal

abbrev pub invariant-keys : goal.invariant-keys
invariant-keys l = l.keys ≡ map goes_on (take l.key-index l.fn.keys) ++ drop l.key-index l.fn.keys
