use Rattle.std.proofs.Common.{◌≡◌, ◌*◌, ◌∙◌, ap, drop, get_or, length, sym, take, arith}
use Rattle.tq_base.specs.RowLists.{RowList}
use Rattle.tq_base.proofs.RowListLemmas.{length-rows_from, values-rows_from}
use Rattle.tq_base.proofs.dense.DenseRows.all_values.Goals as goal

pub returns-clause-len : goal.returns-clause-len
returns-clause-len c =
    let r = c.self.inside in
    let len : length c.args.self.now.items ≡ length r.periods.items = ap (λ (v : RowList). length v.items) (sym c.self.view_is) ∙ length-rows_from r.width r.values.items r.periods.items in
    ap length c.as_slice.ensures.value
    ∙ c.self.invariant.0
    ∙ ap (λ n. n * r.width) (sym len)
    ∙ ap (λ (v : RowList). length c.args.self.now.items * v.width) c.self.view_is

pub returns-clause-rows : goal.returns-clause-rows
returns-clause-rows c = λ k d less.
    let r = c.self.inside in
    let len : length c.args.self.now.items ≡ length r.periods.items = ap (λ (v : RowList). length v.items) (sym c.self.view_is) ∙ length-rows_from r.width r.values.items r.periods.items in
    ap (λ (v : RowList). (get_or v.items k d).values) (sym c.self.view_is)
    ∙ values-rows_from r.width r.values.items r.periods.items k d (omega (arith, less, len))
    ∙ ap (λ (v : RowList). take v.width (drop (k * v.width) r.values.items)) c.self.view_is
    ∙ ap (λ l. take c.args.self.now.width (drop (k * c.args.self.now.width) l)) (sym c.as_slice.ensures.value)
