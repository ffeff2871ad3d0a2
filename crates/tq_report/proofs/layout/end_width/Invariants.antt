use Rattle.std.proofs.Common.{◌≡◌, take}
use Rattle.tq_report.specs.Layouts.{end_width}
use Rattle.tq_report.proofs.layout.end_width.Given as goal

abbrev pub invariant-rows : goal.invariant-rows
invariant-rows l = l.widest ≡ end_width l.form l.inclusive (take l.row l.table.rows)
