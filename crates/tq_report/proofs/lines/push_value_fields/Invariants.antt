use Rattle.std.proofs.Common.{◌≡◌, ◌++◌}
use Rattle.std.specs.List.{flat_map, range_with_len}
use Rattle.tq_report.specs.Reports.{column_text, value_text}
use Rattle.tq_report.proofs.lines.push_value_fields.Given as goal

abbrev pub invariant-columns : goal.invariant-columns
invariant-columns l = l.text.items ≡ l.initial.text.items
    ++ flat_map (column_text l.lines.options.now.format l.lines.layout (value_text l.lines.options.now l.row)) (range_with_len 0 l.column)
