use Rattle.std.proofs.Common.{◌≡◌, ◌≤◌, take}
use Rattle.tq_draw.specs.Scales.{greatest_end}
use Rattle.tq_draw.proofs.scale.greatest_end.Given as goal

abbrev pub invariant-rows : goal.invariant-rows
invariant-rows l = record {
  value : l.greatest ≡ greatest_end l.form (take l.row l.rows);
  within : l.greatest ≤ 1000000000000;
}
