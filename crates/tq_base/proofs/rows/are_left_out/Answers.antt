use Rattle.std.proofs.Common.{[], arith, refl}
use Rattle.std.proofs.lemmas.List.{get_or_default}
use Rattle.tq_base.proofs.SlotLemmas.{left_out_more, left_out_none}
use Rattle.tq_base.proofs.rows.are_left_out.Goals as goal

pub slots-init : goal.slots-init
slots-init c = left_out_none []

pub slots-preserved : goal.slots-preserved
slots-preserved c =
    left_out_more c.args.slots.now c.args.row.now c.slots.place _ _ c.slots-test.true (omega (arith, c.slots-test.true, c.requires)) (get_or_default c.args.slots.now c.slots.place _ _ c.slots-test.true) c.index-row-place.is (c.if-not-is_left_out.ensures refl) c.slots.invariant
