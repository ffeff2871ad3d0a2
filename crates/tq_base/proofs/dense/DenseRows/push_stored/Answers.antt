use Rattle.std.proofs.Common.{◌≡◌, ◌++◌, ◌+◌, ◌*◌, length, ap, sym, ◌∙◌, arith, length-append}
use Rattle.tq_base.specs.RowLists.{RowList}
use Rattle.tq_base.specs.Slots.{kept_of}
use Rattle.tq_base.proofs.RowListLemmas.{fill_both, push-rows_from}
use Rattle.tq_base.proofs.SlotLemmas.{length-kept_of}
use Rattle.tq_base.proofs.dense.DenseRows.push_stored.Goals as goal

pub move_stored-requires-clause-room : goal.move_stored-requires-clause-room
move_stored-requires-clause-room c =
    let wide : c.self.inside.width ≡ c.args.self.now.width = ap (λ (v : RowList). v.width) c.self.view_is in
    let few : length (kept_of c.args.slots.now c.args.row.now.items) ≡ c.args.self.now.width = omega (arith, length-kept_of 0 c.args.slots.now c.args.row.now.items c.args.self.now.width c.requires.wide c.requires.numbered) in
    omega (arith, wide, few, c.in_ok-reserve-2.ensures.ok, c.reserve-2.ensures.len)

pub invariant_of-self-2 : goal.invariant_of-self-2
invariant_of-self-2 c =
    let kept = kept_of c.args.slots.now c.args.row.now.items in
    let wide : c.self.inside.width ≡ c.args.self.now.width = ap (λ (v : RowList). v.width) c.self.view_is in
    let few : length kept ≡ c.self.inside.width = omega (arith, wide, length-kept_of 0 c.args.slots.now c.args.row.now.items c.args.self.now.width c.requires.wide c.requires.numbered) in
    let all : c.move_stored.new.values.items ≡ c.self.inside.values.items ++ kept = c.move_stored.ensures.values ∙ ap (λ l. l ++ kept) c.reserve-2.ensures.items in
    let values : length c.move_stored.new.values.items ≡ length c.self.inside.values.items + length kept = ap length all ∙ length-append c.self.inside.values.items kept in
    let periods : length c.push_reserved.new.self.items ≡ length c.self.inside.periods.items + 1 =
    ap length c.push_reserved.ensures.items ∙ length-append c.reserve.new.self.items _ ∙ ap (λ n. n + 1) (ap length c.reserve.ensures.items) in
    let one : length kept ≡ 1 * c.self.inside.width = omega (arith, few) in
    (values ∙ fill_both _ _ _ _ _ c.self.invariant.0 one ∙ ap (λ n. n * c.self.inside.width) (sym periods), omega (arith, periods, c.if-len-ge-MAX_ROWS.false, c.len.ensures))

pub returns-clause-pushed : goal.returns-clause-pushed
returns-clause-pushed c =
    let kept = kept_of c.args.slots.now c.args.row.now.items in
    let wide : c.self.inside.width ≡ c.args.self.now.width = ap (λ (v : RowList). v.width) c.self.view_is in
    let few : length kept ≡ c.self.inside.width = omega (arith, wide, length-kept_of 0 c.args.slots.now c.args.row.now.items c.args.self.now.width c.requires.wide c.requires.numbered) in
    let values : c.move_stored.new.values.items ≡ c.self.inside.values.items ++ kept = c.move_stored.ensures.values ∙ ap (λ l. l ++ kept) c.reserve-2.ensures.items in
    let periods : c.reserve.new.self.items ≡ c.self.inside.periods.items = c.reserve.ensures.items in
    rw (values, c.push_reserved.ensures.items, periods, ← c.self.view_is) (push-rows_from _ _ _ _ _ c.self.invariant.0 few)
