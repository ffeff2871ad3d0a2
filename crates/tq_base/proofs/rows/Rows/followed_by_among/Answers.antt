use Rattle.std.proofs.Common.{◌++◌, ◌∙◌, List, ap, refl, sym}
use Rattle.tq_base.specs.declared.rows.Slot.{Slot}
use Rattle.tq_base.specs.Slots.{values_of_stored}
use Rattle.tq_base.proofs.SlotLemmas.{joined_seen}
use Rattle.tq_base.proofs.rows.Rows.followed_by_among.Goals as goal

pub returns-clause-rows : goal.returns-clause-rows
returns-clause-rows g c =
    joined_seen c.self.inside.slots.items c.other.inside.slots.items c.self.inside.dense.items c.other.inside.dense.items c.in_ok-followed_by_among.field-0.items (λ kept. ap (λ (l : List Slot). values_of_stored l kept) (sym c.deref.ensures.value ∙ c.if-not-are_same.ensures refl ∙ c.deref-2.ensures.value)) c.in_ok-followed_by_among.ensures.rows
    ∙ (λ i. (c.self.view_is i).items ++ (c.other.view_is i).items)
