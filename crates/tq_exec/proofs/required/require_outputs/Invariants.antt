-- The items so far are made of the values at these places, and those that were marked before still are.
use Rattle.tq_event.specs.Projection.{is_wanted}
use Rattle.std.proofs.Common.{take}
use Rattle.std.specs.Prelude.{All}
use Rattle.tq_exec.specs.Required.{IsMadeOf}
use Rattle.tq_exec.specs.ColumnUse.{AreMore}
use Rattle.tq_exec.proofs.required.require_outputs.Given as goal

abbrev pub invariant-outputs : goal.invariant-outputs
invariant-outputs l = record {
  required : All (IsMadeOf (is_wanted l.places.items)) (take l.output-index l.outputs);
  more : AreMore l.initial.places.items l.places.items;
}
