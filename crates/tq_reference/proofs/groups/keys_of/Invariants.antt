-- The keys of the rows so far.
use Rattle.std.proofs.Common.{◌≡◌, map, take}
use Rattle.tq_condition.specs.Ordinary.{projection}
use Rattle.tq_reference.proofs.groups.keys_of.Given as goal

abbrev pub invariant-rows : goal.invariant-rows
invariant-rows l = l.keys.items ≡ map (projection l.places) (take l.row-index l.rows)
