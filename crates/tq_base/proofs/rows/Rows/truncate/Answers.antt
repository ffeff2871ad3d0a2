use Rattle.std.proofs.Common.{map, take, sym, ap, ◌∙◌}
use Rattle.std.proofs.lemmas.List.{take-map}
use Rattle.tq_base.specs.RowLists.{RowList}
use Rattle.tq_base.specs.Slots.{row_of_stored}
use Rattle.tq_base.proofs.rows.Rows.truncate.Goals as goal

pub returns-clause-rows : goal.returns-clause-rows
returns-clause-rows c =
    ap (map (row_of_stored c.self.inside.slots.items)) c.truncate.ensures.rows
    ∙ sym (take-map (row_of_stored c.self.inside.slots.items) c.args.len c.self.inside.dense.items)
    ∙ ap (λ (v : RowList). take c.args.len v.items) c.self.view_is
