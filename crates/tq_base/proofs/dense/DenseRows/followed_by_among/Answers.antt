use Rattle.std.proofs.Common.{◌≡◌, ◌++◌, ◌+◌, ◌*◌, length, ap, sym, ◌∙◌, arith, length-append}
use Rattle.tq_base.specs.RowLists.{RowList}
use Rattle.tq_base.proofs.RowListLemmas.{append-rows_from, fill_both}
use Rattle.tq_base.proofs.dense.DenseRows.followed_by_among.Goals as goal

pub invariant_of-result : goal.invariant_of-result
invariant_of-result g c =
    let wide : c.other.inside.width ≡ c.self.inside.width = ap (λ (v : RowList). v.width) c.other.view_is ∙ c.requires ∙ ap (λ (v : RowList). v.width) (sym c.self.view_is) in
    let all_values : c.in_ok-values.field-0.items ≡ c.self.inside.values.items ++ c.other.inside.values.items = rw c.in_ok-values.was at c.join-periods.ensures.second in
    let all_periods : c.in_ok-periods.field-0.items ≡ c.self.inside.periods.items ++ c.other.inside.periods.items = rw c.in_ok-periods.was at c.join-periods.ensures.first in
    let values : length c.in_ok-values.field-0.items ≡ length c.self.inside.values.items + length c.other.inside.values.items = ap length all_values ∙ length-append c.self.inside.values.items c.other.inside.values.items in
    let periods : length c.in_ok-periods.field-0.items ≡ length c.self.inside.periods.items + length c.other.inside.periods.items = ap length all_periods ∙ length-append c.self.inside.periods.items c.other.inside.periods.items in
    let others : length c.other.inside.values.items ≡ length c.other.inside.periods.items * c.self.inside.width = c.other.invariant.0 ∙ ap (λ w. length c.other.inside.periods.items * w) wide in
    (values ∙ fill_both _ _ _ _ _ c.self.invariant.0 others ∙ ap (λ n. n * c.self.inside.width) (sym periods), omega (arith, periods, c.if-len.false, c.len.ensures, c.len-2.ensures, c.self.invariant.1))

pub returns-clause-rows : goal.returns-clause-rows
returns-clause-rows g c =
    let wide : c.other.inside.width ≡ c.self.inside.width = ap (λ (v : RowList). v.width) c.other.view_is ∙ c.requires ∙ ap (λ (v : RowList). v.width) (sym c.self.view_is) in
    let all_values : c.in_ok-values.field-0.items ≡ c.self.inside.values.items ++ c.other.inside.values.items = rw c.in_ok-values.was at c.join-periods.ensures.second in
    let all_periods : c.in_ok-periods.field-0.items ≡ c.self.inside.periods.items ++ c.other.inside.periods.items = rw c.in_ok-periods.was at c.join-periods.ensures.first in
    rw (all_values, all_periods, ← c.self.view_is, ← c.other.view_is, wide) (append-rows_from _ _ _ _ _ c.self.invariant.0)
