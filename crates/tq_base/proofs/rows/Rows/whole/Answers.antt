use Rattle.std.proofs.Common.{◌∙◌, List, ap, map}
use Rattle.tq_base.specs.declared.rows.Slot.{Slot}
use Rattle.tq_base.specs.RowLists.{RowList}
use Rattle.tq_base.specs.Slots.{row_of_stored, width_of_slots}
use Rattle.tq_base.proofs.SlotLemmas.{whole_list}
use Rattle.tq_base.proofs.rows.Rows.whole.Goals as goal

pub returns : goal.returns
returns c =
    ap (λ (l : List Slot). let list : RowList = record { width = width_of_slots l c.args.dense.width; items = map (row_of_stored l) c.args.dense.items } in list) c.new.ensures.items
    ∙ whole_list c.args.dense
