use Rattle.std.proofs.Common.{◌∙◌, sym}
use Rattle.tq_split.specs.Adding.{run_values}
use Rattle.tq_split.proofs.AnswerLemmas.{greater_below}
use Rattle.tq_split.proofs.merging.place_in.Goals as goal

pub returns-in-Greater-clause-after : goal.returns-in-Greater-clause-after
returns-in-Greater-clause-after c after =
    greater_below (run_values c.args.combine c.args.run.now.row.values) (run_values c.args.combine c.args.row.now.row.values)
    (sym (rw (c.run_values.ensures, c.run_values-2.ensures) at c.cmp.ensures) ∙ c.in-Greater.is)
