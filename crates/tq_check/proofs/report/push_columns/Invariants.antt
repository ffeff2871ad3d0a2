use Rattle.std.proofs.Common.{◌≡◌, ◌++◌, take}
use Rattle.std.specs.List.{flat_map}
use Rattle.tq_check.specs.Reports.{column_text}
use Rattle.tq_check.proofs.report.push_columns.Given as goal

abbrev pub invariant-columns : goal.invariant-columns
invariant-columns l = l.text.items ≡ l.initial.text.items ++ flat_map column_text (take l.column-index l.fn.columns)
