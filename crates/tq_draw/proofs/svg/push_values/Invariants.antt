use Rattle.std.proofs.Common.{◌≡◌, ◌++◌}
use Rattle.std.specs.List.{flat_map, range_with_len}
use Rattle.tq_draw.specs.Pictures.{value_label}
use Rattle.tq_draw.specs.Svg.{label_element}
use Rattle.tq_draw.proofs.svg.push_values.Given as goal

abbrev pub invariant-columns : goal.invariant-columns
invariant-columns l =
    l.text.items ≡ l.initial.text.items ++ flat_map (label_element l.lefts l.y (value_label l.row)) (range_with_len 0 l.column)
