use Rattle.std.proofs.Common.{◌≡◌, ◌++◌, drop}
use Rattle.tq_draw.specs.Marks.{AreWithin, spaced}
use Rattle.tq_draw.proofs.marks.spaced.Given as goal

abbrev pub invariant-days : goal.invariant-days
invariant-days l = record {
  value : l.marks.items ++ spaced l.scale l.from (drop l.day-index l.days) ≡ spaced l.scale 0 l.days;
  within : AreWithin l.marks.items;
}
