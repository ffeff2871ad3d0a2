use Rattle.std.proofs.Common.{◌≡◌, ◌++◌}
use Rattle.std.specs.List.{flat_map, range_with_len}
use Rattle.tq_report.specs.Layouts.{name_at}
use Rattle.tq_report.specs.Reports.{column_text}
use Rattle.tq_report.specs.Texts.{name_in}
use Rattle.tq_report.proofs.lines.push_name_fields.Given as goal

abbrev pub invariant-columns : goal.invariant-columns
invariant-columns l = l.text.items ≡ l.initial.text.items
    ++ flat_map (column_text l.lines.options.now.format l.lines.layout (λ column. name_in l.lines.options.now.format (name_at l.columns column))) (range_with_len 0 l.column)
