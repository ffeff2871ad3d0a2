-- The columns so far have their slots.
use Rattle.std.proofs.Common.{◌≡◌, ◌≤◌, length}
use Rattle.tq_base.specs.Slots.{AreNumbered}
use Rattle.tq_base.proofs.rows.slots_of.Given as goal

abbrev pub invariant-columns : goal.invariant-columns
invariant-columns l = record {
  many : length l.slots.items ≡ l.place;
  numbered : AreNumbered 0 l.slots.items l.count;
  few : l.count ≤ l.place;
}
