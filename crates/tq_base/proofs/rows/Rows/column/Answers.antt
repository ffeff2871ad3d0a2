use Rattle.std.proofs.Common.{◌≡◌, ◌<◌, ◌≤◌, ◌+◌, ◌*◌, ◌∙◌, List, ap, arith, get_or, length, pos, subst, sym}
use Rattle.std.proofs.lemmas.List.{get_or_past}
use Rattle.tq_base.specs.RowValues.{value_at}
use Rattle.tq_base.specs.declared.rows.Slot.{Slot}
use Rattle.tq_base.specs.declared.rows.Slot.TheVariants.{Stored, Zero, Empty}
use Rattle.tq_base.specs.Contents.{Int}
use Rattle.tq_base.specs.Keys.{no_row}
use Rattle.tq_base.specs.Slots.{values_of_stored, slot_value, AreSlots, IsText}
use Rattle.tq_base.proofs.SlotLemmas.{cell_of, count_seen, value_among}
use Rattle.tq_base.proofs.rows.Rows.column.Goals as goal

pub returns-in-Stored-clause-found : goal.returns-in-Stored-clause-found
returns-in-Stored-clause-found c k d less =
    let r = c.self.inside in
    let at : k < length r.dense.items = omega (arith, less, count_seen r.slots.items r.dense.width r.dense.items c.args.self.now c.self.view_is) in
    let inside : c.in-Stored.place < r.dense.width = omega (arith, c.if-place-width.true, c.width.ensures.width) in
    cell_of r.slots.items r.dense.width r.dense.items c.args.self.now k c.args.column (Stored c.in-Stored.place) d no_row c.self.view_is less (λ values. ap (slot_value values) (sym c.in-Stored.is) ∙ c.slot_of.ensures.value values ∙ ap (λ (l : List Slot). value_at (values_of_stored l values) c.args.column) c.deref.ensures.value)
    ∙ value_among r.dense.items c.all_values.result.now r.dense.width c.in-Stored.place k no_row at inside c.all_values.ensures.rows
    ∙ ap (λ w. value_at c.all_values.result.now (k * w + c.in-Stored.place)) (sym c.width-in-Stored.ensures.width)

pub returns-in-Empty-clause-found : goal.returns-in-Empty-clause-found
returns-in-Empty-clause-found c k d less =
    let r = c.self.inside in
    let zero : k * 0 + 0 ≡ 0 = omega arith in
    let ready : IsText Empty r.texts.items = subst (λ (s : Slot). IsText s r.texts.items) c.in-Empty.is (c.slot_of.ensures.text r.dense.width r.texts.items (subst (λ (l : List Slot). AreSlots l r.dense.width r.texts.items) (sym c.deref.ensures.value) c.self.invariant)) in
    cell_of r.slots.items r.dense.width r.dense.items c.args.self.now k c.args.column Empty d no_row c.self.view_is less (λ values. ap (slot_value values) (sym c.in-Empty.is) ∙ c.slot_of.ensures.value values ∙ ap (λ (l : List Slot). value_at (values_of_stored l values) c.args.column) c.deref.ensures.value)
    ∙ sym (ap (λ l. value_at l (k * 0 + 0)) c.as_slice.ensures.value ∙ ap (value_at r.texts.items) zero ∙ ap (λ l. value_at l 0) ready)

pub returns-in-Stored-2-clause-none : goal.returns-in-Stored-2-clause-none
returns-in-Stored-2-clause-none c none k d less =
    let r = c.self.inside in
    let at : k < length r.dense.items = omega (arith, less, count_seen r.slots.items r.dense.width r.dense.items c.args.self.now c.self.view_is) in
    let same : Stored c.in-Stored-2.field-0 ≡ Stored c.in-Stored.place = sym c.in-Stored-2.is ∙ c.in-Stored.is in
    let place : c.in-Stored-2.field-0 ≡ c.in-Stored.place = cc in
    let past : length (get_or r.dense.items k no_row).values ≤ c.in-Stored-2.field-0 = omega (arith, place, c.width.ensures.rows k no_row at, c.width.ensures.width, c.if-place-width.false) in
    cell_of r.slots.items r.dense.width r.dense.items c.args.self.now k c.args.column (Stored c.in-Stored-2.field-0) d no_row c.self.view_is less (λ values. ap (slot_value values) (sym c.in-Stored-2.is) ∙ c.slot_of.ensures.value values ∙ ap (λ (l : List Slot). value_at (values_of_stored l values) c.args.column) c.deref.ensures.value)
    ∙ get_or_past (get_or r.dense.items k no_row).values c.in-Stored-2.field-0 (Int (pos 0)) past

pub returns-in-Zero-clause-none : goal.returns-in-Zero-clause-none
returns-in-Zero-clause-none c none k d less =
    let r = c.self.inside in
    cell_of r.slots.items r.dense.width r.dense.items c.args.self.now k c.args.column Zero d no_row c.self.view_is less (λ values. ap (slot_value values) (sym c.in-Zero.is) ∙ c.slot_of.ensures.value values ∙ ap (λ (l : List Slot). value_at (values_of_stored l values) c.args.column) c.deref.ensures.value)
