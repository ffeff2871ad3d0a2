use Rattle.std.proofs.Common.{◌≡◌, length, ap, sym, ◌∙◌, arith}
use Rattle.tq_base.specs.RowLists.{RowList}
use Rattle.tq_base.proofs.RowListLemmas.{length-rows_from}
use Rattle.tq_base.proofs.dense.DenseRows.len.Goals as goal

pub returns : goal.returns
returns c =
    let len : length c.args.self.now.items ≡ length c.self.inside.periods.items = ap (λ (v : RowList). length v.items) (sym c.self.view_is) ∙ length-rows_from c.self.inside.width c.self.inside.values.items c.self.inside.periods.items in
    grind (arith, len, c.self.invariant)
