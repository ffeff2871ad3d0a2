use Rattle.std.proofs.Common.{refl}
use Rattle.tq_base.specs.RowLists.{rows_from}
use Rattle.tq_base.proofs.dense.DenseRows.new.Goals as goal

pub returns-clause-rows : goal.returns-clause-rows
unfolding rows_from
returns-clause-rows c = rw (c.new.ensures.items, c.new-2.ensures.items) refl
