use Rattle.std.proofs.Common.{◌≡◌, ◌++◌, take}
use Rattle.std.specs.List.{flat_map}
use Rattle.tq_draw.specs.Html.{name_cell}
use Rattle.tq_draw.proofs.html.push_name_cells.Given as goal

abbrev pub invariant-columns : goal.invariant-columns
invariant-columns l = l.text.items ≡ l.initial.text.items ++ flat_map name_cell (take l.column l.columns)
