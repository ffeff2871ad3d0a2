use Rattle.std.proofs.Common.{◌∙◌, ap}
use Rattle.tq_base.specs.Slots.{width_of_slots}
use Rattle.tq_base.proofs.SlotLemmas.{width_numbered}
use Rattle.tq_base.proofs.rows.Rows.with_columns.Goals as goal

pub returns-clause-width : goal.returns-clause-width
returns-clause-width c =
    ap (width_of_slots c.in_ok-slots.slots.items) c.new-2.ensures.width
    ∙ width_numbered c.in_ok-slots.slots.items c.in_ok-slots.count c.in_ok-slots.ensures.numbered
    ∙ c.in_ok-slots.ensures.many
