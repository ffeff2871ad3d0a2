use Rattle.std.proofs.Common.{◌≡◌, drop}
use Rattle.tq_base.specs.ValueOrder.{values_cmp}
use Rattle.tq_report.proofs.times.compare_values.Given as goal

abbrev pub invariant-places : goal.invariant-places
invariant-places l = values_cmp l.row l.other ≡ values_cmp (drop l.place l.row) (drop l.place l.other)
