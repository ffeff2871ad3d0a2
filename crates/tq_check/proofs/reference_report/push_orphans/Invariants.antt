use Rattle.std.proofs.Common.{◌≡◌, ◌++◌, take}
use Rattle.std.specs.List.{flat_map}
use Rattle.tq_check.specs.ReferenceReports.{orphan_text}
use Rattle.tq_check.proofs.reference_report.push_orphans.Given as goal

abbrev pub invariant-rows : goal.invariant-rows
invariant-rows l = l.text.items ≡ l.initial.text.items ++ flat_map (orphan_text l.form l.fn.children.items l.column) (take l.row-index l.fn.rows)
