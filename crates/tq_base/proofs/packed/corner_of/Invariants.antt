-- No key so far is below the corner.
use Rattle.std.proofs.Common.{take}
use Rattle.std.specs.Prelude.{All}
use Rattle.tq_base.specs.Packed.{IsAbove}
use Rattle.tq_base.proofs.packed.corner_of.Given as goal

abbrev pub invariant-keys : goal.invariant-keys
invariant-keys l = All (IsAbove l.corner) (take l.key-index l.keys)
