-- The rows have equal values so far.
use Rattle.std.proofs.Common.{◌≡◌, take}
use Rattle.tq_table.proofs.ranges.is_below.Given as goal

abbrev pub invariant-places : goal.invariant-places
invariant-places l = take l.place l.row ≡ take l.place l.other
