use Rattle.std.proofs.Common.{◌≡◌, map}
use Rattle.std.specs.List.{range_with_len}
use Rattle.tq_draw.specs.Pictures.{width_of}
use Rattle.tq_draw.proofs.widths.widths_of.Given as goal

abbrev pub invariant-columns : goal.invariant-columns
invariant-columns g l = l.widths.items ≡ map (width_of l.columns l.rows) (range_with_len 0 l.column)
