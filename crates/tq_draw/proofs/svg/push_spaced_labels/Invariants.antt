use Rattle.std.proofs.Common.{◌≡◌, ◌++◌}
use Rattle.std.specs.List.{flat_map, range_with_len}
use Rattle.tq_draw.specs.Svg.{spaced_label}
use Rattle.tq_draw.proofs.svg.push_spaced_labels.Given as goal

abbrev pub invariant-columns : goal.invariant-columns
invariant-columns l = l.text.items ≡ l.initial.text.items ++ flat_map (spaced_label l.row) (range_with_len 0 l.column)
