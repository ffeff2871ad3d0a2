use Rattle.std.proofs.Common.{◌≡◌, ◌++◌}
use Rattle.std.specs.List.{flat_map, range_with_len}
use Rattle.tq_report.specs.Reports.{row_at}
use Rattle.tq_report.proofs.lines.push_rows.Given as goal

abbrev pub invariant-rows : goal.invariant-rows
invariant-rows l = l.text.items ≡ l.initial.text.items
    ++ flat_map (row_at l.lines.options.now l.lines.layout l.lines.columns l.rows) (range_with_len 0 l.row)
