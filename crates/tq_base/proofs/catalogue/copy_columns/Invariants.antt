use Rattle.std.proofs.Common.{◌≡◌, take}
use Rattle.tq_base.proofs.catalogue.copy_columns.Given as goal

abbrev pub invariant-loop-column : goal.invariant-loop-column
invariant-loop-column l = l.copy.items ≡ take l.column-index l.columns
