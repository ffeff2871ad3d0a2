-- The parts so far have their rows at these places, and the others are unchanged.
use Rattle.std.proofs.Common.{◌≡◌, ◌<◌, ℕ, drop, get_or, length, take}
use Rattle.tq_base.specs.Parts.{rows_at}
use Rattle.tq_base.proofs.relation.renumber.Given as goal

abbrev pub invariant-parts : goal.invariant-parts
invariant-parts l = record {
  rows : (k : ℕ) → k < length l.places → rows_at (take l.part-index l.part-items) k ≡ rows_at (take l.part-index l.initial.part-items) (get_or l.places k 0);
  others : drop l.part-index l.part-items ≡ drop l.part-index l.initial.part-items;
}
