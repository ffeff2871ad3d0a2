use Rattle.tq_base.proofs.RowListLemmas.{widths-rows_from}
use Rattle.tq_base.proofs.dense.DenseRows.width.Goals as goal

pub returns-clause-rows : goal.returns-clause-rows
returns-clause-rows c = rw (← c.self.view_is) (widths-rows_from _ _ _ c.self.invariant.0)
