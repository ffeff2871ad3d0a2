-- The sum of the changes so far.
use Rattle.std.proofs.Common.{◌≡◌, take}
use Rattle.tq_agg.specs.Changes.{weights}
use Rattle.tq_agg.proofs.changes.weight_in.Given as goal

abbrev pub invariant-changes : goal.invariant-changes
invariant-changes l = l.weight ≡ weights (take l.change-index l.changes)
