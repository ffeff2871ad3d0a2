use Rattle.std.proofs.Common.{◌≡◌, ◌∙◌, List, ap, get_or, subst, sym}
use Rattle.std.proofs.lemmas.Option.{IfSome_then}
use Rattle.tq_base.specs.RowValues.{value_at}
use Rattle.tq_base.specs.declared.fragment.Fragment.{Fragment}
use Rattle.tq_base.specs.declared.rows.Slot.{Slot}
use Rattle.tq_base.specs.declared.value.Value.{Value}
use Rattle.tq_base.specs.Keys.{no_row}
use Rattle.tq_base.specs.Slots.{values_of_stored, slot_value, AreSlots, IsText}
use Rattle.tq_base.proofs.SlotLemmas.{cell_of}
use Rattle.tq_base.proofs.rows.Rows.value.Goals as goal

pub value_in-requires : goal.value_in-requires
value_in-requires c =
    let r = c.self.inside in
    subst (IsText c.slot_of-slot.result) (sym c.deref-2.ensures.value) (c.slot_of-slot.ensures.text r.dense.width r.texts.items (subst (λ (l : List Slot). AreSlots l r.dense.width r.texts.items) (sym c.deref.ensures.value) c.self.invariant))

-- the value of the column is that of its slot
seen : (c : goal.After-value_in) (d : Fragment) → slot_value c.values.result.now c.slot_of-slot.result ≡ value_at (get_or c.args.self.now.items c.args.row d).values c.args.column
seen c d =
    let r = c.self.inside in
    ap (λ (l : List Value). slot_value l c.slot_of-slot.result) (c.values.ensures no_row)
    ∙ sym (cell_of r.slots.items r.dense.width r.dense.items c.args.self.now c.args.row c.args.column c.slot_of-slot.result d no_row c.self.view_is c.requires
    (λ values. c.slot_of-slot.ensures.value values ∙ ap (λ (l : List Slot). value_at (values_of_stored l values) c.args.column) c.deref.ensures.value))

pub returns-clause-some : goal.returns-clause-some
returns-clause-some c = IfSome_then c.value_in.result c.value_in.ensures.some (λ value is d. is ∙ seen c d)

pub returns-clause-none : goal.returns-clause-none
returns-clause-none c none d = sym (seen c d) ∙ c.value_in.ensures.none none
