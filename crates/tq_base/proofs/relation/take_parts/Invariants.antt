-- The parts so far have their rows at these places.
use Rattle.std.proofs.Common.{◌≡◌, ◌<◌, ℕ, get_or, length, take}
use Rattle.tq_base.specs.Parts.{rows_at}
use Rattle.tq_base.proofs.relation.take_parts.Given as goal

abbrev pub invariant-parts : goal.invariant-parts
invariant-parts l = record {
  len : length l.taken.items ≡ l.part-index;
  rows : (k : ℕ) → k < length l.places → rows_at l.taken.items k ≡ rows_at (take l.part-index l.parts) (get_or l.places k 0);
}
