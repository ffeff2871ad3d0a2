-- The places so far, and those of the items that are left.
use Rattle.std.proofs.Common.{◌≡◌, ◌+◌, ◌≤◌, ◌++◌, drop, length}
use Rattle.tq_exec.specs.OutputPlaces.{item_places}
use Rattle.tq_exec.proofs.aggregate.item_places.Given as goal

abbrev pub invariant-outputs : goal.invariant-outputs
invariant-outputs l =
    (l.places.items ++ item_places l.group l.sum_place (drop l.output-index l.outputs) ≡ item_places l.group (length l.group + 1) l.outputs)
    × (l.sum_place ≤ length l.group + 1 + l.output-index)
