use Rattle.std.proofs.Common.{◌++◌, ◌∙◌, List, ap, map, refl, sym}
use Rattle.std.proofs.lemmas.Result.{on_ok_weaker}
use Rattle.tq_base.specs.declared.rows.Slot.{Slot}
use Rattle.tq_base.specs.declared.value.Value.{Value as AnyValue}
use Rattle.tq_base.specs.Keys.{no_row}
use Rattle.tq_base.specs.Slots.{values_of_stored, slot_value}
use Rattle.tq_base.proofs.SlotLemmas.{row_seen, seen_slots, text_slots}
use Rattle.tq_base.proofs.rows.Rows.show.Goals as goal

pub push_shown-requires : goal.push_shown-requires
push_shown-requires c =
    let r = c.self.inside in
    c.deref-3.ensures.value ∙ text_slots r.slots.items r.dense.width r.texts.items (λ none. c.if-has_all_columns.ensures.some refl (c.deref.ensures.value ∙ none)) c.self.invariant

pub returns-then-has_all_columns : goal.returns-then-has_all_columns
returns-then-has_all_columns c d =
    let r = c.self.inside in
    let kept = c.values-kept.result.now in
    on_ok_weaker c.push_copies.result
    (λ added. added ∙ ap (λ (l : List AnyValue). c.args.room.now.items ++ l)
    (ap (λ (s : List Slot). values_of_stored s kept) (sym (c.if-has_all_columns.ensures.all refl) ∙ c.deref.ensures.value)
    ∙ ap (values_of_stored r.slots.items) (c.values-kept.ensures no_row)
    ∙ row_seen r.slots.items r.dense.width r.dense.items c.args.self.now c.args.row d no_row c.self.view_is c.requires))
    c.push_copies.ensures.added

pub returns : goal.returns
returns c d =
    let r = c.self.inside in
    let kept = c.values-kept.result.now in
    on_ok_weaker c.push_shown.result
    (λ added. added ∙ ap (λ (l : List AnyValue). c.args.room.now.items ++ l)
    (ap (map (slot_value kept)) c.deref-2.ensures.value
    ∙ sym (seen_slots r.slots.items kept (λ none. c.if-has_all_columns.ensures.some refl (c.deref.ensures.value ∙ none)))
    ∙ ap (values_of_stored r.slots.items) (c.values-kept.ensures no_row)
    ∙ row_seen r.slots.items r.dense.width r.dense.items c.args.self.now c.args.row d no_row c.self.view_is c.requires))
    c.push_shown.ensures
