use Rattle.std.proofs.Common.{◌≡◌, map}
use Rattle.std.specs.List.{range_with_len}
use Rattle.tq_report.specs.Layouts.{has_numbers}
use Rattle.tq_report.proofs.layout.rights_of.Given as goal

abbrev pub invariant-columns : goal.invariant-columns
invariant-columns l = l.rights.items ≡ map (has_numbers l.table.rows) (range_with_len 0 l.column)
