use Rattle.std.proofs.Common.{◌≡◌, ◌++◌, filter, take}
use Rattle.tq_mvbt.specs.Points.{is_live}
use Rattle.tq_mvbt.proofs.entry.copy_live.Given as goal

abbrev pub invariant-loop-entry : goal.invariant-loop-entry
invariant-loop-entry l = l.copied.items ≡ l.initial.copied.items ++ filter is_live (take l.entry-index l.entries)
