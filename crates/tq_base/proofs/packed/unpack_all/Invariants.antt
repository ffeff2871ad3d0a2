-- The keys so far are those that were packed.
use Rattle.std.proofs.Common.{◌≡◌, map, take}
use Rattle.tq_base.specs.Packed.{unpack}
use Rattle.tq_base.proofs.packed.unpack_all.Given as goal

abbrev pub invariant-all : goal.invariant-all
invariant-all l = take l.place l.keys ≡ map (unpack l.corner) (take l.place l.all)
