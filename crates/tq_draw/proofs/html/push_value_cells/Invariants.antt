use Rattle.std.proofs.Common.{◌≡◌, ◌++◌}
use Rattle.std.specs.List.{flat_map, range_with_len}
use Rattle.tq_draw.specs.Html.{value_cell}
use Rattle.tq_draw.proofs.html.push_value_cells.Given as goal

abbrev pub invariant-columns : goal.invariant-columns
invariant-columns l = l.text.items ≡ l.initial.text.items ++ flat_map (value_cell l.row) (range_with_len 0 l.column)
