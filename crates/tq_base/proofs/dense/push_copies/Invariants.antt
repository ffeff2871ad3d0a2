-- The values so far were added.
use Rattle.std.proofs.Common.{◌≡◌, ◌++◌, take}
use Rattle.tq_base.proofs.dense.push_copies.Given as goal

abbrev pub invariant-row : goal.invariant-row
invariant-row l = l.values.items ≡ l.initial.values.items ++ take l.value-index l.row
