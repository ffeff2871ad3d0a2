use Rattle.std.proofs.Common.{◌<◌, ◌++◌, ◌∙◌, arith, get_or, length}
use Rattle.tq_base.specs.Keys.{no_row}
use Rattle.tq_base.proofs.RowListLemmas.{values_more}
use Rattle.tq_base.proofs.rows.Rows.copied_values.Goals as goal

pub rows-preserved : goal.rows-preserved
rows-preserved c =
    let items = c.args.self.now.items in
    let inside : c.rows.row < length items = omega (arith, c.rows-test.true, c.len-row-end.ensures.len) in
    c.in_ok-show.ensures no_row
    ∙ (λ i. c.rows.invariant i ++ (get_or items c.rows.row no_row).values)
    ∙ values_more items c.rows.row no_row inside
