use Rattle.std.proofs.Common.{◌∙◌, ◌-◌, ap, get_or, length, subst}
use Rattle.tq_base.specs.Groups.{Below}
use Rattle.tq_base.specs.Keys.{no_row}
use Rattle.tq_table.proofs.RangeLemmas.{all_below}
use Rattle.tq_table.proofs.lines.ResultRows.are_below.Goals as goal

pub returns : goal.returns
returns c is =
    let rows = c.args.self.now in
    let others = c.args.others.now in
    all_below rows others no_row c.requires.ordered c.requires.others_ordered
    (subst (λ v. Below (get_or rows (length rows - 1) no_row).values v) c.row-2.ensures
    (subst (λ v. Below v c.row-2.result) (c.row.ensures ∙ ap (λ n. (get_or rows (n - 1) no_row).values) c.len-2.ensures) (c.is_below.ensures is)))
