use Rattle.std.proofs.Common.{◌+◌, ◌++◌, ◌∷◌, [], Bool, cond, subst, sym}
use Rattle.tq_base.specs.declared.rows.Slot.TheVariants.{Stored, Zero, Empty}
use Rattle.tq_base.specs.Slots.{AreNumbered}
use Rattle.tq_base.proofs.SlotLemmas.{numbered-empty, numbered-kept, numbered-zero}
use Rattle.tq_base.proofs.rows.next_slot.Goals as goal

pub returns-in-true-default : goal.returns-in-true-default
returns-in-true-default c slots are =
    let kept = c.args.kept in
    subst (λ (b : Bool). AreNumbered 0 (slots ++ Stored kept ∷ []) (cond b (kept + 1) kept)) (sym c.in-true-default.is-0) (numbered-kept 0 slots kept are)

pub returns-in-false-Int : goal.returns-in-false-Int
returns-in-false-Int c slots are =
    let kept = c.args.kept in
    subst (λ (b : Bool). AreNumbered 0 (slots ++ Zero ∷ []) (cond b (kept + 1) kept)) (sym c.in-false-Int.is-0) (numbered-zero 0 slots kept are)

pub returns-in-false-Text : goal.returns-in-false-Text
returns-in-false-Text c slots are =
    let kept = c.args.kept in
    subst (λ (b : Bool). AreNumbered 0 (slots ++ Empty ∷ []) (cond b (kept + 1) kept)) (sym c.in-false-Text.is-0) (numbered-empty 0 slots kept are)
