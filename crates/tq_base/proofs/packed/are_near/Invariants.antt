-- Each key so far can be packed.
use Rattle.std.proofs.Common.{take}
use Rattle.std.specs.Prelude.{All}
use Rattle.tq_base.specs.Packed.{IsNear}
use Rattle.tq_base.proofs.packed.are_near.Given as goal

abbrev pub invariant-keys : goal.invariant-keys
invariant-keys l = All (IsNear l.corner) (take l.key-index l.keys)
