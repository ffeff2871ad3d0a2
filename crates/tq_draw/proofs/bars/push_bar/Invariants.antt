use Rattle.std.proofs.Common.{◌≡◌, ◌++◌, map}
use Rattle.std.specs.List.{range_with_len}
use Rattle.tq_draw.specs.Bars.{bar_byte}
use Rattle.tq_draw.proofs.bars.push_bar.Given as goal

abbrev pub invariant-cells : goal.invariant-cells
invariant-cells l = l.text.items ≡ l.initial.text.items ++ map (bar_byte l.scale l.period) (range_with_len 0 l.cell)
