use Rattle.std.proofs.Common.{◌≡◌, ◌≢◌, ◌<◌, ◌∙◌, ◌+◌, true, false, drop, get_or, sym, refl, length, arith}
use Rattle.std.specs.Ordering.{is_ne}
use Rattle.std.specs.declared.cmp.Ordering.{Ordering}
use Rattle.std.specs.declared.cmp.Ordering.TheVariants.{Less, Equal, Greater}
use Rattle.tq_base.specs.RowValues.{value_at}
use Rattle.tq_base.specs.SortInputs.{state_of}
use Rattle.tq_base.specs.Keys.{key_values}
use Rattle.tq_base.specs.ValueOrder.{value_cmp}
use Rattle.tq_base.proofs.SortKeyLemmas.{compared_at, first_differs, first_same}
use Rattle.tq_base.proofs.sort_input.SortInput.compare_rows.Goals as goal

equal_by : (r : Ordering) → is_ne r ≡ false → r ≡ Equal
equal_by Less is = cc
equal_by Equal is = refl
equal_by Greater is = cc

differ_by : (r : Ordering) → is_ne r ≡ true → r ≢ Equal
differ_by Less is = λ e. cc
differ_by Equal is = cc
differ_by Greater is = λ e. cc

pub places-preserved : goal.places-preserved
places-preserved c =
    let s = state_of c.args.self.now in
    let place = c.places.place in
    let within : place < length c.columns-other_columns.result.now = omega (arith, c.places-test.true, c.columns-columns.ensures.same, c.columns-other_columns.ensures.same) in
    let left = compared_at s c.args.one.now c.row-row.result c.columns-columns.result.now place (get_or c.columns-columns.result.now place 0) c.row-row.ensures c.columns-columns.ensures.columns c.places-test.true refl in
    let right = compared_at s c.args.other.now c.row-other_row.result c.columns-other_columns.result.now place (get_or c.columns-other_columns.result.now place 0) c.row-other_row.ensures c.columns-other_columns.ensures.columns within refl in
    let x = value_at c.row-row.result (get_or c.columns-columns.result.now place 0) in
    let y = value_at c.row-other_row.result (get_or c.columns-other_columns.result.now place 0) in
    let u = drop (place + 1) (key_values s c.args.one.now) in
    let v = drop (place + 1) (key_values s c.args.other.now) in
    let same : c.compare_at-order.result ≡ Equal = equal_by c.compare_at-order.result (sym c.is_ne.ensures ∙ c.if-is_ne.false) in
    c.places.invariant ∙ rw (left, right) (first_same x y u v (sym c.compare_at-order.ensures ∙ same))

pub returns-then-is_ne : goal.returns-then-is_ne
returns-then-is_ne c =
    let s = state_of c.args.self.now in
    let place = c.places.place in
    let within : place < length c.columns-other_columns.result.now = omega (arith, c.places-test.true, c.columns-columns.ensures.same, c.columns-other_columns.ensures.same) in
    let left = compared_at s c.args.one.now c.row-row.result c.columns-columns.result.now place (get_or c.columns-columns.result.now place 0) c.row-row.ensures c.columns-columns.ensures.columns c.places-test.true refl in
    let right = compared_at s c.args.other.now c.row-other_row.result c.columns-other_columns.result.now place (get_or c.columns-other_columns.result.now place 0) c.row-other_row.ensures c.columns-other_columns.ensures.columns within refl in
    let order = c.compare_at-order.ensures in
    let x = value_at c.row-row.result (get_or c.columns-columns.result.now place 0) in
    let y = value_at c.row-other_row.result (get_or c.columns-other_columns.result.now place 0) in
    let u = drop (place + 1) (key_values s c.args.one.now) in
    let v = drop (place + 1) (key_values s c.args.other.now) in
    let differ : value_cmp (value_at c.row-row.result (get_or c.columns-columns.result.now place 0)) (value_at c.row-other_row.result (get_or c.columns-other_columns.result.now place 0)) ≢ Equal = λ e. differ_by c.compare_at-order.result (sym c.is_ne.ensures ∙ c.if-is_ne.true) (order ∙ e) in
    sym (c.places.invariant ∙ rw (left, right) (first_differs x y u v differ) ∙ sym order)
