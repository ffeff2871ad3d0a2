use Rattle.std.proofs.Common.{◌≡◌, map}
use Rattle.std.specs.List.{range_with_len}
use Rattle.tq_report.specs.Layouts.{column_width}
use Rattle.tq_report.proofs.layout.widths_of.Given as goal

abbrev pub invariant-columns : goal.invariant-columns
invariant-columns l = l.widths.items ≡ map (column_width l.options.places.items l.table.columns l.table.rows) (range_with_len 0 l.column)
