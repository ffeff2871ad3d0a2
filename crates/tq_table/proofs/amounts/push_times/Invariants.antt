use Rattle.std.proofs.Common.{◌≡◌, ◌++◌, replicate}
use Rattle.tq_table.proofs.amounts.push_times.Given as goal

abbrev pub invariant-times : goal.invariant-times
invariant-times l = l.text.items ≡ l.initial.text.items ++ replicate l._time l.byte
