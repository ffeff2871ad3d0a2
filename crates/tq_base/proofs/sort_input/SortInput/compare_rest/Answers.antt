use Rattle.std.proofs.Common.{◌<◌, ◌≤◌, ◌+◌, ◌∙◌, ap, drop, get_or, length, refl, sym, arith}
use Rattle.std.specs.Ordering.{is_ne, ordering_then}
use Rattle.tq_base.specs.RowValues.{value_at}
use Rattle.tq_base.specs.SortInputs.{state_of}
use Rattle.tq_base.specs.Keys.{key_values}
use Rattle.tq_base.specs.TieBreak.{value_after}
use Rattle.tq_base.specs.ValueOrder.{value_cmp, values_cmp}
use Rattle.tq_base.proofs.TieBreakLemmas.{compared_from, compared_past, compared_unlike, from_at, from_past}
use Rattle.tq_base.proofs.sort_input.SortInput.compare_rest.Goals as goal

pub returns-then-place-columns : goal.returns-then-place-columns
returns-then-place-columns c =
    let s = state_of c.args.self.now in
    let past : length c.columns-other_columns.result.now ≤ c.args.place = omega (arith, c.if-place-columns.true, c.columns-columns.ensures.same, c.columns-other_columns.ensures.same) in
    c.cmp.ensures
    ∙ compared_past s c.args.place c.args.offset c.args.one.now c.args.other.now
    (from_past s c.args.one.now c.columns-columns.result.now c.args.place c.args.offset c.columns-columns.ensures.columns c.if-place-columns.true)
    (from_past s c.args.other.now c.columns-other_columns.result.now c.args.place c.args.offset c.columns-other_columns.ensures.columns past)

pub returns-then-is_ne : goal.returns-then-is_ne
returns-then-is_ne c =
    let s = state_of c.args.self.now in
    let place = c.args.place in
    let within : place < length c.columns-other_columns.result.now = omega (arith, c.if-place-columns.false, c.columns-columns.ensures.same, c.columns-other_columns.ensures.same) in
    let column = get_or c.columns-columns.result.now place 0 in
    let other_column = get_or c.columns-other_columns.result.now place 0 in
    let left = from_at s c.args.one.now c.row-row.result c.columns-columns.result.now place column c.args.offset c.row-row.ensures c.columns-columns.ensures.columns c.if-place-columns.false refl in
    let right = from_at s c.args.other.now c.row-other_row.result c.columns-other_columns.result.now place other_column c.args.offset c.row-other_row.ensures c.columns-other_columns.ensures.columns within refl in
    let differ = ap is_ne (sym c.compare_there-order.ensures) ∙ sym c.is_ne.ensures ∙ c.if-is_ne.true in
    c.compare_there-order.ensures ∙ compared_unlike s place c.args.offset c.args.one.now c.args.other.now _ _ _ _ left right differ

pub returns : goal.returns
returns c =
    let s = state_of c.args.self.now in
    let place = c.args.place in
    let within : place < length c.columns-other_columns.result.now = omega (arith, c.if-place-columns.false, c.columns-columns.ensures.same, c.columns-other_columns.ensures.same) in
    let column = get_or c.columns-columns.result.now place 0 in
    let other_column = get_or c.columns-other_columns.result.now place 0 in
    let left = from_at s c.args.one.now c.row-row.result c.columns-columns.result.now place column c.args.offset c.row-row.ensures c.columns-columns.ensures.columns c.if-place-columns.false refl in
    let right = from_at s c.args.other.now c.row-other_row.result c.columns-other_columns.result.now place other_column c.args.offset c.row-other_row.ensures c.columns-other_columns.ensures.columns within refl in
    let first = ap (λ o. ordering_then o c.compare_from.result) c.compare_there-order.ensures in
    let both = ap (ordering_then (value_cmp (value_after c.args.offset (value_at c.row-row.result column)) (value_after c.args.offset (value_at c.row-other_row.result other_column)))) c.compare_from.ensures in
    c.then-2.ensures
    ∙ ap (λ o. ordering_then o c.cmp-2.result) (c.then.ensures ∙ first ∙ both)
    ∙ ap (ordering_then (ordering_then (value_cmp (value_after c.args.offset (value_at c.row-row.result column)) (value_after c.args.offset (value_at c.row-other_row.result other_column))) (values_cmp (drop (place + 1) (key_values s c.args.one.now)) (drop (place + 1) (key_values s c.args.other.now))))) c.cmp-2.ensures
    ∙ compared_from s place c.args.offset c.args.one.now c.args.other.now _ _ _ _ left right
