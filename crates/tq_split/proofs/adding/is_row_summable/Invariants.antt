-- The values in the columns so far can be summed.
use Rattle.std.proofs.Common.{take}
use Rattle.tq_agg.specs.Grouping.{AreSummable}
use Rattle.tq_split.proofs.adding.is_row_summable.Given as goal

abbrev pub invariant-columns : goal.invariant-columns
invariant-columns l = AreSummable (take l.column-index l.columns) l.row
