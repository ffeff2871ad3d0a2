use Rattle.std.proofs.Common.{◌≡◌, map, ap, sym, ◌∙◌}
use Rattle.tq_base.specs.declared.fragment.Fragment.{Fragment}
use Rattle.tq_base.specs.RowLists.{RowList}
use Rattle.tq_base.proofs.RowListLemmas.{periods-rows_from}
use Rattle.tq_base.proofs.dense.DenseRows.periods.Goals as goal

pub returns : goal.returns
returns c =
    let seen : map (λ (row : Fragment). row.period) c.args.self.now.items ≡ c.self.inside.periods.items = ap (λ (v : RowList). map (λ (row : Fragment). row.period) v.items) (sym c.self.view_is) ∙ periods-rows_from c.self.inside.width c.self.inside.values.items c.self.inside.periods.items in
    c.as_slice.ensures.value ∙ sym seen
