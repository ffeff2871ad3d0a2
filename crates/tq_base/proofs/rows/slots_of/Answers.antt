use Rattle.std.proofs.Common.{List, ap, arith, length, subst, sym}
use Rattle.tq_base.specs.declared.rows.Slot.{Slot}
use Rattle.tq_base.specs.Slots.{AreNumbered}
use Rattle.tq_base.proofs.SlotLemmas.{numbered-none}
use Rattle.tq_base.proofs.rows.slots_of.Goals as goal

pub columns-init : goal.columns-init
columns-init c = record {
  many = ap length c.in_ok-slots.ensures.items;
  numbered = subst (λ (l : List Slot). AreNumbered 0 l 0) (sym c.in_ok-slots.ensures.items) numbered-none;
  few = omega arith;
}
