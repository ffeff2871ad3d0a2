-- The values so far are those at the places so far.
use Rattle.std.proofs.Common.{◌≡◌, take}
use Rattle.tq_condition.specs.Ordinary.{projection}
use Rattle.tq_reference.proofs.groups.projected.Given as goal

abbrev pub invariant-places : goal.invariant-places
invariant-places l = l.values.items ≡ projection (take l.place-index l.places) l.row
