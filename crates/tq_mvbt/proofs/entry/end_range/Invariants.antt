use Rattle.std.proofs.Common.{◌≡◌, ◌++◌, map, take, drop}
use Rattle.tq_mvbt.specs.Points.{with_end}
use Rattle.tq_mvbt.proofs.entry.end_range.Given as goal

abbrev pub invariant-loop-entry : goal.invariant-loop-entry
invariant-loop-entry l = l.entries ≡ map (with_end l.low l.high l.version) (take l.entry-index l.initial.entries) ++ drop l.entry-index l.initial.entries
