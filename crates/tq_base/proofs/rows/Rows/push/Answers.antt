use Rattle.std.proofs.Common.{◌≢◌, ◌++◌, ◌∷◌, [], ◌∙◌, List, ap, refl, subst}
use Rattle.std.proofs.lemmas.Result.{on_ok_weaker}
use Rattle.tq_base.specs.declared.fragment.Fragment.{Fragment}
use Rattle.tq_base.specs.declared.rows.Slot.{Slot}
use Rattle.tq_base.specs.Slots.{kept_of, AreLeftOut, AreNumbered}
use Rattle.tq_base.proofs.SlotLemmas.{numbered_slots, pushed_seen}
use Rattle.tq_base.proofs.rows.Rows.push.Goals as goal

pub returns-clause-pushed : goal.returns-clause-pushed
returns-clause-pushed c =
    let r = c.self.inside in
    let row = c.args.row.now.items in
    let some : r.slots.items ≢ [] = λ none. c.if-has_all_columns.ensures.some refl (c.deref.ensures.value ∙ none) in
    let numbered : AreNumbered 0 r.slots.items r.dense.width = numbered_slots r.slots.items r.dense.width r.texts.items some c.self.invariant in
    let out : AreLeftOut r.slots.items row = subst (λ (l : List Slot). AreLeftOut l row) c.deref-2.ensures.value (subst (AreLeftOut c.deref-2.result.now) c.deref-3.ensures.value (c.if-not-are_left_out.ensures refl)) in
    on_ok_weaker c.push_stored.result
    (λ pushed. pushed_seen r.slots.items r.dense.width r.dense.items c.push_stored.new.self.items c.args.self.now row c.args.period some c.self.view_is c.requires numbered out
    (pushed ∙ ap (λ (l : List Slot). let all : List Fragment = r.dense.items ++ record { values = kept_of l row; period = c.args.period } ∷ [] in all) c.deref-4.ensures.value))
    c.push_stored.ensures.pushed
