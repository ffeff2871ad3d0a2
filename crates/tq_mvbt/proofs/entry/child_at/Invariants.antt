use Rattle.std.proofs.Common.{◌≡◌, count_by, take}
use Rattle.tq_mvbt.specs.Points.{leads}
use Rattle.tq_mvbt.proofs.entry.child_at.Given as goal

abbrev pub invariant-loop-entry : goal.invariant-loop-entry
invariant-loop-entry l = count_by (leads l.key) (take l.entry-index l.entries) ≡ 0
