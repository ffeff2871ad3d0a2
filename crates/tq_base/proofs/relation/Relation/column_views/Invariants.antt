-- The columns so far.
use Rattle.std.proofs.Common.{◌≡◌, map}
use Rattle.std.specs.List.{range_with_len}
use Rattle.tq_base.specs.Relations.{column_of}
use Rattle.tq_base.proofs.relation.Relation.column_views.Given as goal

abbrev pub invariant-columns : goal.invariant-columns
invariant-columns l = l.columns.items ≡ map (column_of l.self.items) (range_with_len 0 l.column)
