use Rattle.std.proofs.Common.{◌≡◌, ◌<◌, ◌+◌, ◌++◌, ◌∷◌, [], ◌∙◌, ap, arith, append_assoc, drop, get_or, length, pos, refl, suc, sym, take}
use Rattle.std.specs.Prelude.{vec_capacity, vec_len}
use Rattle.std.specs.Global.{Vec}
use Rattle.std.proofs.Math.ListN.{length-set, set}
use Rattle.std.proofs.lemmas.List.{append-nil, drop-set-lt, get_or_default}
use Rattle.tq_base.specs.declared.value.Value.{Value}
use Rattle.tq_base.specs.declared.rows.Slot.TheVariants.{Stored}
use Rattle.tq_base.specs.declared.rows.Slot.{Slot}
use Rattle.tq_base.specs.Contents.{Int}
use Rattle.tq_base.specs.Slots.{kept_of}
use Rattle.tq_base.proofs.SlotLemmas.{kept_left, kept_more, left_first, left_next, none_kept}
use Rattle.tq_base.proofs.dense.move_stored.Goals as goal
use Rattle.tq_base.proofs.dense.move_stored.Goals.{in-Stored, in_default}

pub slots-init : goal.slots-init
unfolding kept_of
slots-init c = record {
  len = c.requires.wide;
  rest = refl;
  values = sym (append-nil _);
  room = c.requires.room;
}

pub push_reserved-requires : goal.push_reserved-requires
unfolding kept_of
push_reserved-requires c =
    let slots = c.args.slots.now in
    let row = c.args.row.now.items in
    let k = c.slots.place in
    let slot : Slot = Stored c.in-Stored.field-0 in
    let less : k < length slots = c.slots-test.true in
    let value : Value = get_or row k (Int (pos 0)) in
    let is : slot ≡ get_or slots k slot = sym c.in-Stored.is ∙ get_or_default slots k (Stored 0) slot less in
    let here : value ≡ get_or row k value = get_or_default row k (Int (pos 0)) value (omega (arith, c.requires.wide, less)) in
    let left : length (kept_of (drop k slots) (drop k row)) ≡ suc (length (kept_of (drop (k + 1) slots) (drop (k + 1) row))) = ap length (kept_left slots row k slot value c.requires.wide less is here) in
    omega (arith, left, c.slots.invariant.room)

pub slots-preserved : goal.slots-preserved
unfolding kept_of
slots-preserved c =
    let slots = c.args.slots.now in
    let row = c.args.row.now.items in
    let k = c.slots.place in
    let less : k < length slots = c.slots-test.true in
    elim c.match-slot.branch [
      | in-Stored w ↦
          let slot : Slot = Stored w.in-Stored.field-0 in
          let value : Value = w.replace-value.result in
          let within : k < length c.slots.row.items = omega (arith, c.slots.invariant.len, less) in
          let is : slot ≡ get_or slots k slot = sym w.in-Stored.is ∙ get_or_default slots k (Stored 0) slot less in
          let here : value ≡ get_or row k value =
          w.replace-value.ensures.value ∙ w.index_mut.ensures.value ∙ get_or_default c.slots.row.items k w.index_mut.result.now value within ∙ left_first c.slots.row.items row k value c.slots.invariant.rest in
          let row_is : c.match-slot.row.items ≡ set c.slots.row.items k w.replace-value.new.dest = ap (λ (v : Vec Value). v.items) w.row-is in
          let left : length (kept_of (drop k slots) (drop k row)) ≡ suc (length (kept_of (drop (k + 1) slots) (drop (k + 1) row))) = ap length (kept_left slots row k slot value c.requires.wide less is here) in
          let len : vec_len c.match-slot.values ≡ vec_len c.slots.values + 1 = ap vec_len w.values-is ∙ w.push_reserved.ensures.len in
          let capacity : vec_capacity c.match-slot.values ≡ vec_capacity c.slots.values = ap vec_capacity w.values-is ∙ w.push_reserved.ensures.capacity in
          record {
            len = ap length row_is ∙ length-set c.slots.row.items k w.replace-value.new.dest ∙ c.slots.invariant.len;
            rest = ap (drop (k + 1)) row_is ∙ drop-set-lt (k + 1) c.slots.row.items k w.replace-value.new.dest (omega arith) ∙ left_next c.slots.row.items row k c.slots.invariant.rest;
            values = ap (λ (v : Vec Value). v.items) w.values-is ∙ w.push_reserved.ensures.items ∙ ap (λ l. l ++ value ∷ []) c.slots.invariant.values
                ∙ append_assoc c.args.values.now.items (kept_of (take k slots) (take k row)) (value ∷ [])
                ∙ ap (λ l. c.args.values.now.items ++ l) (sym (kept_more slots row k slot value c.requires.wide less is here));
            room = omega (arith, left, len, capacity, c.slots.invariant.room);
          }
      | in_default w ↦
          let slot : Slot = get_or slots k (Stored 0) in
          let value : Value = get_or row k (Int (pos 0)) in
          let is : slot ≡ get_or slots k slot = get_or_default slots k (Stored 0) slot less in
          let here : value ≡ get_or row k value = get_or_default row k (Int (pos 0)) value (omega (arith, c.requires.wide, less)) in
          let none : kept_of (slot ∷ []) (value ∷ []) ≡ [] = none_kept slot value w.in_default.not-Stored in
          let left : kept_of (drop k slots) (drop k row) ≡ kept_of (drop (k + 1) slots) (drop (k + 1) row) =
          kept_left slots row k slot value c.requires.wide less is here ∙ ap (λ l. l ++ kept_of (drop (k + 1) slots) (drop (k + 1) row)) none in
          let more : kept_of (take (k + 1) slots) (take (k + 1) row) ≡ kept_of (take k slots) (take k row) =
          kept_more slots row k slot value c.requires.wide less is here ∙ ap (λ l. kept_of (take k slots) (take k row) ++ l) none ∙ append-nil (kept_of (take k slots) (take k row)) in
          let len : vec_len c.match-slot.values ≡ vec_len c.slots.values = ap vec_len w.values-is in
          let capacity : vec_capacity c.match-slot.values ≡ vec_capacity c.slots.values = ap vec_capacity w.values-is in
          record {
            len = ap (λ (v : Vec Value). length v.items) w.row-is ∙ c.slots.invariant.len;
            rest = ap (λ (v : Vec Value). drop (k + 1) v.items) w.row-is ∙ left_next c.slots.row.items row k c.slots.invariant.rest;
            values = ap (λ (v : Vec Value). v.items) w.values-is ∙ c.slots.invariant.values ∙ ap (λ l. c.args.values.now.items ++ l) (sym more);
            room = omega (arith, ap length left, len, capacity, c.slots.invariant.room);
          }
    ]
