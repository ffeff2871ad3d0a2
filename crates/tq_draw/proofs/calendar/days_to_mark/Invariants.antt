use Rattle.std.proofs.Common.{◌≡◌, drop}
use Rattle.tq_draw.specs.Calendar.{unit_among, unit_of}
use Rattle.tq_draw.proofs.calendar.days_to_mark.Given as goal

abbrev pub invariant-units : goal.invariant-units
invariant-units l = unit_among (drop l.unit-index l.unit-items) l.most l.first l.last ≡ unit_of l.most l.first l.last
