use Rattle.std.proofs.Common.{◌≡◌, ◌≤◌, take}
use Rattle.tq_draw.specs.Scales.{least_start}
use Rattle.tq_draw.proofs.scale.least_start.Given as goal

abbrev pub invariant-rows : goal.invariant-rows
invariant-rows l = record {
  value : l.least ≡ least_start l.form (take l.row l.rows);
  within : l.least ≤ 1000000000000;
}
