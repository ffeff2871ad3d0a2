use Rattle.std.proofs.Common.{◌≡◌, map}
use Rattle.std.specs.List.{range_with_len}
use Rattle.tq_draw.specs.Marks.{AreWithin, regular_mark}
use Rattle.tq_draw.proofs.marks.regular_marks.Given as goal

abbrev pub invariant-marks : goal.invariant-marks
invariant-marks l = record {
  value : l.marks.items ≡ map (regular_mark l.scale) (range_with_len 0 l.mark);
  within : AreWithin l.marks.items;
}
