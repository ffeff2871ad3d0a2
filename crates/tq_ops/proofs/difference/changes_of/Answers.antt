use Rattle.std.proofs.Common.{rules, ◌≡◌, ◌<◌, length, get_or, map, refl, sym, ap, ◌∙◌, subst, arith, not, nat_le, ◌&&◌}
use Rattle.std.proofs.lemmas.List.{get_or-map, get_or_default, length-map, take_all}
use Rattle.std.proofs.lemmas.List.Sorted.{answers_always, sum_by-IsPermutation}
use Rattle.tq_base.specs.declared.period.Period.{Period}
use Rattle.tq_base.specs.declared.sort_input.SortKey.{SortKey}
use Rattle.tq_base.specs.declared.sort_input.RunStart.TheVariants.{Unknown}
use Rattle.tq_base.specs.declared.sort_input.Side.TheVariants.{Left, Right}
use Rattle.tq_base.specs.Keys.{held, is_same_side, key_row}
use Rattle.tq_base.specs.SortInputs.{state_of}
use Rattle.tq_base.specs.Periods.{IsOverlap, Overlap}
use Rattle.tq_ops.specs.declared.difference.Change.{Change}
use Rattle.tq_ops.specs.Differences.{side_held}
use Rattle.tq_ops.proofs.Counting.{one_if}
use Rattle.tq_ops.proofs.Changing.{counts_on, counts_past, stays_even}
use Rattle.tq_ops.proofs.difference.changes_of.Goals as goal

abbrev no_key : SortKey
no_key = record { prefix = 0; start = 0; row = 0; side = Left; run_start = Unknown }

pub rows-preserved-in_default : goal.rows-preserved-in_default
rows-preserved-in_default c =
    let s = state_of c.args.sort_input.now in
    let f = held s in
    let k = get_or c.args.group.now c.rows.place no_key in
    let lt : c.rows.place < length (map f c.args.group.now) = omega (arith, c.rows-test.true, length-map c.args.group.now f) in
    let is : f k ≡ get_or (map f c.args.group.now) c.rows.place (f k) = sym (get_or-map f c.args.group.now c.rows.place no_key (f k) c.rows-test.true) in
    let when : SortKey → Period = λ k. (key_row s k).period in
    let at : Period = c.index-periods-place.result in
    let same : at ≡ (f k).row.period = c.index-periods-place.is ∙ ap (λ l. get_or l c.rows.place at) c.requires ∙ get_or-map when c.args.group.now c.rows.place no_key at c.rows-test.true in
    record {
      counted = λ t. counts_past c.args.window.now (map f c.args.group.now) c.rows.place (f k) lt is c.rows.changes.items
          (λ inside. let some = c.in_default.ensures.some.1 (subst (λ p. Overlap p c.args.window.now) (sym same) inside) in cc) t (c.rows.invariant.counted t);
      even = c.rows.invariant.even;
    }

pub rows-preserved : goal.rows-preserved
rows-preserved c =
    let s = state_of c.args.sort_input.now in
    let f = held s in
    let k = get_or c.args.group.now c.rows.place no_key in
    let lt : c.rows.place < length (map f c.args.group.now) = omega (arith, c.rows-test.true, length-map c.args.group.now f) in
    let is : f k ≡ get_or (map f c.args.group.now) c.rows.place (f k) = sym (get_or-map f c.args.group.now c.rows.place no_key (f k) c.rows-test.true) in
    let when : SortKey → Period = λ k. (key_row s k).period in
    let at : Period = c.index-periods-place.result in
    let same : at ≡ (f k).row.period = c.index-periods-place.is ∙ ap (λ l. get_or l c.rows.place at) c.requires ∙ get_or-map when c.args.group.now c.rows.place no_key at c.rows-test.true in
    let overlap = subst (λ p. IsOverlap p c.args.window.now c.in-Some.period) same c.in-Some.ensures.value in
    let side = c.is_left-rises.ensures ∙ ap (λ (k : SortKey). is_same_side Left k.side) (get_or_default c.args.group.now c.rows.place _ no_key c.rows-test.true) in
    record {
      counted = λ t. counts_on c.args.window.now (map f c.args.group.now) c.rows.place (f k) lt is
          c.in-Some.period c.is_left-rises.result c.at.result c.in-Some.period.end c.rows.changes.items c.push.new.self.items c.push-in-rows.new.self.items
          overlap side c.at.ensures refl c.in_ok-push.ensures.items c.in_ok-push-2.ensures.items t (c.rows.invariant.counted t);
      even = stays_even c.rows.changes.items c.push.new.self.items c.push-in-rows.new.self.items c.is_left-rises.result c.at.result c.in-Some.period.end
          c.in_ok-push.ensures.items c.in_ok-push-2.ensures.items c.rows.invariant.even;
    }

pub returns-clause-counted : goal.returns-clause-counted
returns-clause-counted c t =
    let f = held (state_of c.args.sort_input.now) in
    let same = c.sort_unstable_by_key.ensures.permutation in
    let all = take_all c.rows.place (map f c.args.group.now) (omega (arith, c.rows-test.false, length-map c.args.group.now f)) in
    omega (
      arith,
      c.rows.invariant.counted t,
      sum_by-IsPermutation (λ (c : Change). one_if (c.rises && nat_le c.at t)) _ _ same,
      sum_by-IsPermutation (λ (c : Change). one_if (not c.rises && nat_le c.at t)) _ _ same,
      ap (λ l. side_held c.args.window.now Left l t) all,
      ap (λ l. side_held c.args.window.now Right l t) all,
    )

pub returns-clause-even : goal.returns-clause-even
returns-clause-even c =
    let same = c.sort_unstable_by_key.ensures.permutation in
    omega (arith, c.rows.invariant.even, sum_by-IsPermutation (λ (c : Change). one_if c.rises) _ _ same, sum_by-IsPermutation (λ (c : Change). one_if (not c.rises)) _ _ same)

pub returns-clause-sorted : goal.returns-clause-sorted
returns-clause-sorted c = c.sort_unstable_by_key.ensures.sorted (λ (c : Change). c.at) (answers_always _ _ _ (λ f a r g h. search rules))
