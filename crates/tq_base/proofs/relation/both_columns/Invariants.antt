-- The columns so far were added.
use Rattle.std.proofs.Common.{◌≡◌, ◌++◌, map, take}
use Rattle.tq_base.specs.Parts.{moved_column}
use Rattle.tq_base.proofs.relation.both_columns.Given as goal

abbrev pub invariant-others : goal.invariant-others
invariant-others l = l.both.items ≡ l.columns ++ map (moved_column l.parts) (take l.column-index l.others)
