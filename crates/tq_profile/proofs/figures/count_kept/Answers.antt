use Rattle.std.proofs.Common.{◌∙◌, ◌<◌, ap, arith, count_by, length}
use Rattle.std.proofs.lemmas.List.{take_all}
use Rattle.tq_base.specs.Keys.{no_row}
use Rattle.tq_profile.specs.Figures.{is_kept}
use Rattle.tq_profile.proofs.FigureLemmas.{count_more}
use Rattle.tq_profile.proofs.figures.count_kept.Goals as goal

pub rows-preserved : goal.rows-preserved
rows-preserved c =
    let rows = c.args.rows.now.items in
    let inside : c.rows.row < length rows = omega (arith, c.rows-test.true, c.len-row-end.ensures.len) in
    let step = count_more (is_kept c.args.window.now c.args.keys) rows c.rows.row no_row inside in
    record {
      counted = omega (arith, step, c.rows.invariant.counted, c.one_kept-kept.ensures.value no_row);
      few = omega (arith, c.rows.invariant.few, c.one_kept-kept.ensures.one);
    }

pub returns : goal.returns
returns c =
    c.rows.invariant.counted
    ∙ ap (count_by (is_kept c.args.window.now c.args.keys)) (take_all c.rows.row c.args.rows.now.items (omega (arith, c.rows-test.false, c.len-row-end.ensures.len)))
