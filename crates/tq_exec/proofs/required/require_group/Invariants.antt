-- The places so far are marked, and those that were marked before still are.
use Rattle.tq_event.specs.Projection.{is_wanted}
use Rattle.std.proofs.Common.{◌≡◌, true, take}
use Rattle.std.specs.Prelude.{All}
use Rattle.tq_exec.specs.ColumnUse.{AreMore}
use Rattle.tq_exec.proofs.required.require_group.Given as goal

abbrev pub invariant-group : goal.invariant-group
invariant-group l = record {
  required : All (λ place. is_wanted l.places.items place ≡ true) (take l.place-index l.group);
  more : AreMore l.initial.places.items l.places.items;
}
