use Rattle.std.proofs.Common.{map, sym, ap, ◌∙◌}
use Rattle.tq_base.specs.declared.fragment.Fragment.{Fragment}
use Rattle.tq_base.specs.RowLists.{RowList}
use Rattle.tq_base.proofs.SlotLemmas.{periods_seen}
use Rattle.tq_base.proofs.rows.Rows.periods.Goals as goal

pub returns : goal.returns
returns c =
    c.periods.ensures
    ∙ sym (periods_seen c.self.inside.slots.items c.self.inside.dense.items)
    ∙ ap (λ (v : RowList). map (λ (row : Fragment). row.period) v.items) c.self.view_is
