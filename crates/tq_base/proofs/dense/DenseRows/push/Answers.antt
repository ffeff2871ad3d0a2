use Rattle.std.proofs.Common.{◌≡◌, ◌++◌, length, ap, sym, ◌∙◌}
use Rattle.tq_base.specs.RowLists.{RowList}
use Rattle.tq_base.proofs.RowListLemmas.{push-rows_from}
use Rattle.tq_base.proofs.dense.DenseRows.push.Goals as goal

pub returns-clause-pushed : goal.returns-clause-pushed
returns-clause-pushed c =
    let fits : length c.args.row.now.items ≡ c.self.inside.width = c.requires ∙ ap (λ (v : RowList). v.width) (sym c.self.view_is) in
    let values : c.append.new.self.items ≡ c.self.inside.values.items ++ c.args.row.now.items = (c.in_ok-append.ensures).items in
    let periods : c.reserve.new.self.items ≡ c.self.inside.periods.items = c.reserve.ensures.items in
    rw (values, c.push_reserved.ensures.items, periods, ← c.self.view_is) (push-rows_from _ _ _ _ _ c.self.invariant.0 fits)
