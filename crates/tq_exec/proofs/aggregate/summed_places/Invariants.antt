-- The places so far, and those of the items that are left.
use Rattle.std.proofs.Common.{◌≡◌, ◌++◌, drop}
use Rattle.tq_exec.specs.OutputPlaces.{summed_places}
use Rattle.tq_exec.proofs.aggregate.summed_places.Given as goal

abbrev pub invariant-outputs : goal.invariant-outputs
invariant-outputs l = l.places.items ++ summed_places (drop l.output-index l.outputs) ≡ summed_places l.outputs
