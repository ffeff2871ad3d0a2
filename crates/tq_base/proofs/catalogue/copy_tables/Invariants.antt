use Rattle.std.proofs.Common.{◌≡◌, take}
use Rattle.tq_base.proofs.catalogue.copy_tables.Given as goal

abbrev pub invariant-loop-table : goal.invariant-loop-table
invariant-loop-table l = l.copy.items ≡ take l.table-index l.tables
