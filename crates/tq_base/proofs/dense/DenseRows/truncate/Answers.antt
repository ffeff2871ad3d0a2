use Rattle.std.proofs.Common.{◌≡◌, ◌*◌, length, take, ap, sym, ◌∙◌, arith}
use Rattle.std.proofs.lemmas.List.{take_all}
use Rattle.tq_base.specs.RowLists.{RowList}
use Rattle.tq_base.proofs.RowListLemmas.{length-rows_from, take-rows_from}
use Rattle.tq_base.proofs.dense.DenseRows.truncate.Goals as goal

pub returns-then-len-clause-rows : goal.returns-then-len-clause-rows
returns-then-len-clause-rows c =
    let values : c.truncate-then-len.new.self.items ≡ take (c.args.len * c.self.inside.width) c.self.inside.values.items = c.truncate-then-len.ensures.items in
    let periods : c.truncate.new.self.items ≡ take c.args.len c.self.inside.periods.items = c.truncate.ensures.items in
    rw (values, periods, ← c.self.view_is) (take-rows_from _ _ _ _)

pub returns-else-len-clause-rows : goal.returns-else-len-clause-rows
returns-else-len-clause-rows c =
    let len : length c.args.self.now.items ≡ length c.self.inside.periods.items = ap (λ (v : RowList). length v.items) (sym c.self.view_is) ∙ length-rows_from c.self.inside.width c.self.inside.values.items c.self.inside.periods.items in
    sym (take_all c.args.len c.args.self.now.items (omega (arith, len, c.len.ensures, c.if-len.false)))
