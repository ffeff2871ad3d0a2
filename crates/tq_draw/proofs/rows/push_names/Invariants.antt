use Rattle.std.proofs.Common.{◌≡◌, ◌++◌}
use Rattle.std.specs.List.{flat_map, range_with_len}
use Rattle.tq_draw.specs.Labels.{column_at}
use Rattle.tq_draw.specs.Pictures.{name_label}
use Rattle.tq_draw.proofs.rows.push_names.Given as goal

abbrev pub invariant-columns : goal.invariant-columns
invariant-columns l = l.text.items ≡ l.initial.text.items ++ flat_map (column_at l.widths (name_label l.columns)) (range_with_len 0 l.column)
