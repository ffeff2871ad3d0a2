use Rattle.std.proofs.Common.{◌≡◌, ◌+◌, false, refl, ◌++◌, ◌∷◌, [], ◌<◌, length, map, sym, ap, ◌∙◌, arith, take, append_assoc, subst}
use Rattle.std.proofs.lemmas.List.{get_or-map, length-map, map-append, take_all, take_more}
use Rattle.std.proofs.lemmas.List.Elements.{All-map}
use Rattle.tq_base.specs.declared.period.Period.{Period}
use Rattle.tq_base.specs.declared.relation.RowPeriod.{RowPeriod}
use Rattle.tq_base.specs.declared.sort_input.Side.TheVariants.{Left}
use Rattle.tq_base.specs.declared.fragment.Fragment.{Fragment}
use Rattle.tq_base.specs.Keys.{held, is_same_side, key_row, Held, IsSortKey}
use Rattle.tq_base.specs.SortInputs.{state_of}
use Rattle.tq_base.specs.Layering.{rows_of}
use Rattle.tq_ops.specs.Differences.{rises_upto, falls_upto, rows_at_periods}
use Rattle.tq_ops.proofs.Changing.{adds_nothing}
use Rattle.tq_ops.proofs.Standing.{is_left, line_added, more_lines, stands_left}
use Rattle.tq_ops.proofs.difference.add_difference.Goals as goal

pub returns-in_default-clause-rows : goal.returns-in_default-clause-rows
returns-in_default-clause-rows c v alike =
    let s = state_of c.args.sort_input.now in
    adds_nothing c.args.window.now (map (held s) c.args.group.now) v (rows_at_periods s c.args.lines.now.items)
    (All-map (λ (r : Held). is_same_side Left r.side ≡ false) (held s) c.args.group.now (c.in_default.ensures.none refl))

pub periods-preserved : goal.periods-preserved
periods-preserved c =
    let s = state_of c.args.sort_input.now in
    let first = c.in-Some.first in
    let left = is_left first.side c.in-Some.ensures.left in
    let values = (key_row s first).values in
    let periods = c.deref-period-items.result.now in
    let i = c.periods.period-index in
    let p = c.period-item.result in
    let line : RowPeriod = record { row = first.row; period = p } in
    let of : Period → Fragment = λ (p : Period). record { values = values; period = p } in
    let more : take (i + 1) periods ≡ take i periods ++ p ∷ [] = take_more periods i p c.periods-test.true ∙ ap (λ x. take i periods ++ x ∷ []) (sym c.period-item.is) in
    let (place, below, is) = c.in-Some.ensures.stands in
    record {
      within = λ are. more_lines s c.periods.lines.items c.push.new.self.items line c.in_ok-push.ensures.items (stands_left s first (subst (IsSortKey s) is (c.requires.keys place first below)) left) (c.periods.invariant.within are);
      rows = line_added s c.periods.lines.items c.push.new.self.items line first c.in_ok-push.ensures.items left refl
          ∙ ap (λ l. l ++ of p ∷ []) c.periods.invariant.rows
          ∙ append_assoc (rows_at_periods s c.args.lines.now.items) (rows_of values (take i periods)) (of p ∷ [])
          ∙ ap (λ l. rows_at_periods s c.args.lines.now.items ++ l) (sym (map-append of (take i periods) (p ∷ [])) ∙ ap (rows_of values) (sym more));
    }

pub returns-clause-rows : goal.returns-clause-rows
returns-clause-rows c v alike =
    let s = state_of c.args.sort_input.now in
    let first = c.in-Some.first in
    let stands = c.in-Some.ensures.stands in
    let lt : stands.0 < length (map (held s) c.args.group.now) = omega (arith, stands.1, length-map c.args.group.now (held s)) in
    let is_v : (key_row s first).values ≡ v =
    ap (λ k. (key_row s k).values) (sym stands.2)
    ∙ ap (λ (r : Held). r.row.values) (sym (get_or-map (held s) c.args.group.now stands.0 first (held s first) stands.1)) ∙ alike stands.0 (held s first) lt in
    let all = take_all c.periods.period-index c.deref-period-items.result.now c.periods-test.false ∙ c.deref-period-items.ensures.value in
    record {
      periods = c.in_ok-left.left.items;
      counted = λ t.
          omega (arith, c.in_ok-left.ensures t, ap (λ l. rises_upto l t) c.deref.ensures.value, ap (λ l. falls_upto l t) c.deref.ensures.value, c.in_ok-changes.ensures.counted t);
      added = c.periods.invariant.rows ∙ ap (λ u. rows_at_periods s c.args.lines.now.items ++ rows_of u (take c.periods.period-index c.deref-period-items.result.now)) is_v
          ∙ ap (λ l. rows_at_periods s c.args.lines.now.items ++ rows_of v l) all;
    }
