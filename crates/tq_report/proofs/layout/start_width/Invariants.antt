use Rattle.std.proofs.Common.{◌≡◌, take}
use Rattle.tq_report.specs.Layouts.{start_width}
use Rattle.tq_report.proofs.layout.start_width.Given as goal

abbrev pub invariant-rows : goal.invariant-rows
invariant-rows l = l.widest ≡ start_width l.form (take l.row l.table.rows)
