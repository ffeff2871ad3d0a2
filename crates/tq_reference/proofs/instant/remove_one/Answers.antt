use Rattle.std.proofs.Common.{◌-◌, ◌∷◌, ◌<◌, ◌≤◌, ◌∙◌, [], length, sym, ap, arith}
use Rattle.std.specs.Ordering.{eq_by_cmp}
use Rattle.std.proofs.lemmas.List.{take_all}
use Rattle.tq_base.specs.ValueOrder.{values_cmp}
use Rattle.tq_base.specs.Fragments.{occurrences}
use Rattle.tq_reference.proofs.RemovingLemmas.{occurrences-none, occurrences-removed}
use Rattle.tq_reference.proofs.instant.remove_one.Goals as goal

pub returns-then-eq : goal.returns-then-eq
returns-then-eq c v =
    let rows = c.rows.rows.items in
    let row = c.args.row.now in
    let found = c.index.result.now in
    let less : c.rows.place < length rows = omega arith in
    ap (λ l. occurrences l v) c.remove.ensures.items
    ∙ occurrences-removed rows c.rows.place row found v less (sym (c.if-eq.ensures ∙ ap (λ r. eq_by_cmp values_cmp r row) c.index.ensures))
    ∙ ap (λ l. occurrences l v - occurrences (row ∷ []) v) c.rows.invariant.1

pub returns : goal.returns
returns c v =
    let rows = c.args.rows.now.items in
    let row = c.args.row.now in
    let past : length rows ≤ c.rows.place = omega (arith, c.rows-test.false, c.len-place-end.ensures) in
    ap (λ l. occurrences l v) c.rows.invariant.1
    ∙ occurrences-none rows row v (ap (λ l. occurrences l row) (sym (take_all c.rows.place rows past)) ∙ c.rows.invariant.0)
