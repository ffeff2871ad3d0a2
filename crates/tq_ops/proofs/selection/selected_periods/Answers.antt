use Rattle.std.proofs.Common.{◌≡◌, ◌∷◌, ◌++◌, [], map, refl, subst, ◌<◌, get_or, length, sum_by, ap, sym, ◌∙◌, arith}
use Rattle.std.specs.Global.{Vec}
use Rattle.std.specs.Prelude.{All}
use Rattle.std.specs.Option.{option_copied}
use Rattle.std.proofs.lemmas.List.{map-append, take_all}
use Rattle.std.proofs.lemmas.List.Elements.{All-push}
use Rattle.std.proofs.lemmas.List.Sums.{sum_by_more}
use Rattle.tq_base.specs.declared.relation.RowPeriod.{RowPeriod}
use Rattle.tq_base.specs.Relations.{row_period_of}
use Rattle.tq_base.specs.Keys.{no_row}
use Rattle.tq_base.specs.Periods.{IsOverlap, Overlap}
use Rattle.tq_base.specs.Fragments.{at, copies, occurrences}
use Rattle.tq_condition.specs.Ordinary.{admits, selection}
use Rattle.tq_ops.proofs.Counting.{copies-push}
use Rattle.tq_ops.proofs.Cutting.{inside_from_counts, outside_from_counts}
use Rattle.tq_ops.proofs.Selecting.{selected, selected-sum_by, selects, fails, lies_apart}
use Rattle.tq_ops.proofs.selection.selected_periods.Goals as goal
use Rattle.tq_ops.proofs.selection.selected_periods.Goals.{then-admits+in_ok-push, else-admits}

pub rows-preserved-in_default : goal.rows-preserved-in_default
rows-preserved-in_default c =
    let inside : c.rows.number < length c.args.rows.now.items = omega (arith, c.rows-test.true, c.len-number-end.ensures.len) in
    let row = get_or c.args.rows.now.items c.rows.number no_row in
    let same : c.period.result ≡ row.period = c.period.ensures no_row in
    record {
      within = c.rows.invariant.within;
      counted = λ t v.
          let step = sum_by_more (selected c.args.window.now (option_copied c.args.test) t v) c.args.rows.now.items c.rows.number no_row inside in
          let none = lies_apart c.args.window.now (option_copied c.args.test) row (λ overlap. let some = c.in_default.ensures.some.1 (subst (λ p. Overlap p c.args.window.now) (sym same) overlap) in cc) t v in
          omega (arith, c.rows.invariant.counted t v, step, none);
    }

pub rows-preserved : goal.rows-preserved
rows-preserved c =
    let rows = c.args.rows.now.items in
    let inside : c.rows.number < length rows = omega (arith, c.rows-test.true, c.len-number-end.ensures.len) in
    let row = get_or rows c.rows.number no_row in
    let same : c.period.result ≡ row.period = c.period.ensures no_row in
    let pushable : c.admits.result ≡ admits (option_copied c.args.test) row.values = c.admits.ensures ∙ ap (admits (option_copied c.args.test)) c.row.ensures in
    elim c.if-admits.branch [
      | then-admits+in_ok-push w ↦
          let line : RowPeriod = record { row = c.rows.number; period = c.in-Some.period } in
          let pushed : c.if-admits.lines.items ≡ c.rows.lines.items ++ line ∷ [] = ap (λ (o : Vec RowPeriod). o.items) w.lines-is ∙ w.in_ok-push.ensures.items in
          record {
            within = subst (All (λ (line : RowPeriod). line.row < length rows)) (sym pushed) (All-push (λ (line : RowPeriod). line.row < length rows) c.rows.lines.items line c.rows.invariant.within inside);
            counted = λ t v.
                let step = sum_by_more (selected c.args.window.now (option_copied c.args.test) t v) rows c.rows.number no_row inside in
                let one = selects c.args.window.now (option_copied c.args.test) row c.in-Some.period row.values
                (subst (λ p. IsOverlap p c.args.window.now c.in-Some.period) same c.in-Some.ensures.value) refl (sym pushable ∙ w.if-admits.true) t v in
                let all = ap (λ l. copies (map (row_period_of rows) l) v t) pushed in
                let parted = ap (λ l. copies l v t) (map-append (row_period_of rows) c.rows.lines.items (line ∷ [])) in
                omega (arith, c.rows.invariant.counted t v, step, one, all, parted, copies-push (map (row_period_of rows) c.rows.lines.items) (row_period_of rows line) v t);
          }
      | else-admits w ↦ record {
        within = rw w.lines-is c.rows.invariant.within;
        counted = λ t v.
            let step = sum_by_more (selected c.args.window.now (option_copied c.args.test) t v) rows c.rows.number no_row inside in
            let none = fails c.args.window.now (option_copied c.args.test) row (sym pushable ∙ w.if-admits.false) t v in
            let all = ap (λ (o : Vec RowPeriod). copies (map (row_period_of rows) o.items) v t) w.lines-is in
            omega (arith, c.rows.invariant.counted t v, step, none, all);
      }
    ]

pub returns-clause-inside : goal.returns-clause-inside
returns-clause-inside c =
    inside_from_counts c.args.window.now (map (row_period_of c.args.rows.now.items) c.rows.lines.items) (λ t v. occurrences (selection (option_copied c.args.test) (at c.args.rows.now.items t)) v)
    (λ t v. c.rows.invariant.counted t v ∙ ap (sum_by (selected c.args.window.now (option_copied c.args.test) t v)) (take_all c.rows.number c.args.rows.now.items (omega (arith, c.rows-test.false, c.len-number-end.ensures.len)))
    ∙ selected-sum_by c.args.window.now (option_copied c.args.test) c.args.rows.now.items t v)

pub returns-clause-outside : goal.returns-clause-outside
returns-clause-outside c =
    outside_from_counts c.args.window.now (map (row_period_of c.args.rows.now.items) c.rows.lines.items) (λ t v. occurrences (selection (option_copied c.args.test) (at c.args.rows.now.items t)) v)
    (λ t v. c.rows.invariant.counted t v ∙ ap (sum_by (selected c.args.window.now (option_copied c.args.test) t v)) (take_all c.rows.number c.args.rows.now.items (omega (arith, c.rows-test.false, c.len-number-end.ensures.len)))
    ∙ selected-sum_by c.args.window.now (option_copied c.args.test) c.args.rows.now.items t v)
