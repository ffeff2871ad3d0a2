use Rattle.std.proofs.Common.{◌≡◌, ◌<◌, ◌++◌, ◌∷◌, [], true, length, get_or, map, refl, sym, ap, ◌∙◌, subst, arith}
use Rattle.std.proofs.lemmas.List.{get_or-map, get_or_default, length-map, take_all}
use Rattle.std.proofs.lemmas.List.Elements.{All-map}
use Rattle.tq_base.specs.declared.relation.RowPeriod.{RowPeriod}
use Rattle.tq_base.specs.declared.period.Period.{Period}
use Rattle.tq_base.specs.declared.sort_input.SortKey.{SortKey}
use Rattle.tq_base.specs.declared.sort_input.RunStart.TheVariants.{Unknown}
use Rattle.tq_base.specs.declared.sort_input.Side.TheVariants.{Left}
use Rattle.tq_base.specs.Keys.{held, is_same_side, key_row, Held}
use Rattle.tq_base.specs.SortInputs.{state_of}
use Rattle.tq_base.specs.Periods.{IsOverlap, Overlap}
use Rattle.tq_ops.proofs.Changing.{adds_all, cut_on, cut_past, nothing_cut, Cut}
use Rattle.tq_ops.proofs.Standing.{is_left, line_added, more_lines, stands_left}
use Rattle.tq_ops.specs.Differences.{rows_at_periods}
use Rattle.tq_ops.proofs.difference.add_cut.Goals as goal

abbrev no_key : SortKey
no_key = record { prefix = 0; start = 0; row = 0; side = Left; run_start = Unknown }

pub rows-init : goal.rows-init
rows-init c = record {
  within = λ are. are;
  cut = λ v alike. nothing_cut c.args.window.now v (rows_at_periods (state_of c.args.sort_input.now) c.args.lines.now.items);
}

pub rows-preserved-in_default : goal.rows-preserved-in_default
rows-preserved-in_default c =
    let s = state_of c.args.sort_input.now in
    let f = held s in
    let k = get_or c.args.group.now c.rows.place no_key in
    let lt : c.rows.place < length (map f c.args.group.now) = omega (arith, c.rows-test.true, length-map c.args.group.now f) in
    let is : f k ≡ get_or (map f c.args.group.now) c.rows.place (f k) = sym (get_or-map f c.args.group.now c.rows.place no_key (f k) c.rows-test.true) in
    let when : SortKey → Period = λ k. (key_row s k).period in
    let at : Period = c.index-periods-place.result in
    let same : at ≡ (f k).row.period = c.index-periods-place.is ∙ ap (λ l. get_or l c.rows.place at) c.requires.periods ∙ get_or-map when c.args.group.now c.rows.place no_key at c.rows-test.true in
    record {
      within = c.rows.invariant.within;
      cut = λ v alike.
          cut_past c.args.window.now (map f c.args.group.now) c.rows.place (f k) lt is v (rows_at_periods s c.args.lines.now.items) (rows_at_periods s c.rows.lines.items)
          (λ inside. let some = c.in_default.ensures.some.1 (subst (λ p. Overlap p c.args.window.now) (sym same) inside) in cc) (c.rows.invariant.cut v alike);
    }

pub rows-preserved : goal.rows-preserved
rows-preserved c =
    let s = state_of c.args.sort_input.now in
    let f = held s in
    let k = get_or c.args.group.now c.rows.place no_key in
    let lt : c.rows.place < length (map f c.args.group.now) = omega (arith, c.rows-test.true, length-map c.args.group.now f) in
    let is : f k ≡ get_or (map f c.args.group.now) c.rows.place (f k) = sym (get_or-map f c.args.group.now c.rows.place no_key (f k) c.rows-test.true) in
    let when : SortKey → Period = λ k. (key_row s k).period in
    let at : Period = c.index-periods-place.result in
    let same : at ≡ (f k).row.period = c.index-periods-place.is ∙ ap (λ l. get_or l c.rows.place at) c.requires.periods ∙ get_or-map when c.args.group.now c.rows.place no_key at c.rows-test.true in
    let overlap = subst (λ p. IsOverlap p c.args.window.now c.in-Some.period) same c.in-Some.ensures.value in
    let of = c.requires.left c.rows.place no_key c.rows-test.true in
    let left = is_left k.side of in
    let line : RowPeriod = record { row = k.row; period = c.in-Some.period } in
    let pushed : c.push.new.self.items ≡ c.rows.lines.items ++ line ∷ [] =
    c.in_ok-push.ensures.items ∙ ap (λ (k : SortKey). c.rows.lines.items ++ record { row = k.row; period = c.in-Some.period } ∷ []) (get_or_default c.args.group.now c.rows.place _ no_key c.rows-test.true) in
    record {
      within = λ are. more_lines s c.rows.lines.items c.push.new.self.items line pushed (stands_left s k (c.requires.keys c.rows.place no_key c.rows-test.true) left) (c.rows.invariant.within are);
      cut = λ v alike.
          cut_on c.args.window.now (map f c.args.group.now) c.rows.place (f k) lt is c.in-Some.period v (rows_at_periods s c.args.lines.now.items) (rows_at_periods s c.rows.lines.items) (rows_at_periods s c.push.new.self.items)
          overlap of (ap (λ (r : Held). r.row.values) is ∙ alike c.rows.place (f k) lt)
          (line_added s c.rows.lines.items c.push.new.self.items line k pushed left refl) (c.rows.invariant.cut v alike);
    }

pub returns-clause-rows : goal.returns-clause-rows
returns-clause-rows c v alike =
    let f = held (state_of c.args.sort_input.now) in
    let rows = map f c.args.group.now in
    let all = take_all c.rows.place rows (omega (arith, c.rows-test.false, length-map c.args.group.now f)) in
    let w = subst (λ l. Cut c.args.window.now l v (rows_at_periods (state_of c.args.sort_input.now) c.args.lines.now.items) (rows_at_periods (state_of c.args.sort_input.now) c.rows.lines.items)) all (c.rows.invariant.cut v alike) in
    adds_all c.args.window.now rows v (rows_at_periods (state_of c.args.sort_input.now) c.args.lines.now.items) (rows_at_periods (state_of c.args.sort_input.now) c.rows.lines.items) w.periods (All-map (λ (r : Held). is_same_side Left r.side ≡ true) f c.args.group.now c.requires.left) w.counted w.added
