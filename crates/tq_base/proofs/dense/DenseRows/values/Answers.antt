use Rattle.std.proofs.Common.{rules, ◌≡◌, ◌≤◌, ◌+◌, ◌*◌, ◌-◌, length, take, drop, get_or, ap, sym, ◌∙◌, arith}
use Rattle.tq_base.specs.RowLists.{RowList}
use Rattle.tq_base.proofs.RowListLemmas.{length-rows_from, row_inside, values-rows_from}
use Rattle.tq_base.proofs.dense.DenseRows.values.Goals as goal

pub overflow_mul-start : goal.overflow_mul-start
overflow_mul-start c =
    let len : length c.args.self.now.items ≡ length c.self.inside.periods.items = ap (λ (v : RowList). length v.items) (sym c.self.view_is) ∙ length-rows_from c.self.inside.width c.self.inside.values.items c.self.inside.periods.items in
    let inside : c.args.row * c.self.inside.width + c.self.inside.width ≤ length c.self.inside.values.items = row_inside c.args.row (length c.self.inside.periods.items) c.self.inside.width (length c.self.inside.values.items) (omega (arith, c.requires, len)) c.self.invariant.0 in
    let same : length c.as_slice-values.result.now ≡ length c.self.inside.values.items = ap length c.as_slice-values.ensures.value in
    omega (arith, inside, same, c.as_slice-values.type_inv.0)

pub overflow_add-result : goal.overflow_add-result
overflow_add-result c =
    let len : length c.args.self.now.items ≡ length c.self.inside.periods.items = ap (λ (v : RowList). length v.items) (sym c.self.view_is) ∙ length-rows_from c.self.inside.width c.self.inside.values.items c.self.inside.periods.items in
    let inside : c.args.row * c.self.inside.width + c.self.inside.width ≤ length c.self.inside.values.items = row_inside c.args.row (length c.self.inside.periods.items) c.self.inside.width (length c.self.inside.values.items) (omega (arith, c.requires, len)) c.self.invariant.0 in
    let same : length c.as_slice-values.result.now ≡ length c.self.inside.values.items = ap length c.as_slice-values.ensures.value in
    omega (arith, inside, same, c.as_slice-values.type_inv.0)

pub offset_bounds-values-start : goal.offset_bounds-values-start
offset_bounds-values-start c =
    let len : length c.args.self.now.items ≡ length c.self.inside.periods.items = ap (λ (v : RowList). length v.items) (sym c.self.view_is) ∙ length-rows_from c.self.inside.width c.self.inside.values.items c.self.inside.periods.items in
    let inside : c.args.row * c.self.inside.width + c.self.inside.width ≤ length c.self.inside.values.items = row_inside c.args.row (length c.self.inside.periods.items) c.self.inside.width (length c.self.inside.values.items) (omega (arith, c.requires, len)) c.self.invariant.0 in
    let same : length c.as_slice-values.result.now ≡ length c.self.inside.values.items = ap length c.as_slice-values.ensures.value in
    grind (arith, inside, same, c.as_slice-values.type_inv.1)

pub slice_bounds-result-end : goal.slice_bounds-result-end
slice_bounds-result-end c =
    let len : length c.args.self.now.items ≡ length c.self.inside.periods.items = ap (λ (v : RowList). length v.items) (sym c.self.view_is) ∙ length-rows_from c.self.inside.width c.self.inside.values.items c.self.inside.periods.items in
    let inside : c.args.row * c.self.inside.width + c.self.inside.width ≤ length c.self.inside.values.items = row_inside c.args.row (length c.self.inside.periods.items) c.self.inside.width (length c.self.inside.values.items) (omega (arith, c.requires, len)) c.self.invariant.0 in
    let same : length c.as_slice-values.result.now ≡ length c.self.inside.values.items = ap length c.as_slice-values.ensures.value in
    search rules

pub returns : goal.returns
returns c = λ d.
    let len : length c.args.self.now.items ≡ length c.self.inside.periods.items = ap (λ (v : RowList). length v.items) (sym c.self.view_is) ∙ length-rows_from c.self.inside.width c.self.inside.values.items c.self.inside.periods.items in
    let seen : (get_or c.args.self.now.items c.args.row d).values ≡ take c.self.inside.width (drop (c.args.row * c.self.inside.width) c.self.inside.values.items) = ap (λ (v : RowList). (get_or v.items c.args.row d).values) (sym c.self.view_is) ∙ values-rows_from c.self.inside.width c.self.inside.values.items c.self.inside.periods.items c.args.row d (omega (arith, c.requires, len)) in
    let size : c.args.row * c.self.inside.width + c.self.inside.width - c.args.row * c.self.inside.width ≡ c.self.inside.width = omega arith in
    rw (size, c.as_slice-values.ensures.value) (sym seen)
