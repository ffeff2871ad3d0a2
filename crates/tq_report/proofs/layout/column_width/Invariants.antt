use Rattle.std.proofs.Common.{◌≡◌, take}
use Rattle.tq_report.specs.Layouts.{column_width}
use Rattle.tq_report.proofs.layout.column_width.Given as goal

abbrev pub invariant-rows : goal.invariant-rows
invariant-rows l = l.widest ≡ column_width l.places l.table.columns (take l.row l.table.rows) l.column
