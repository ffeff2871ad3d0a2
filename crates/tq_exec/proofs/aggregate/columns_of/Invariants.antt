-- The columns so far are the places so far.
use Rattle.std.proofs.Common.{◌≡◌, take}
use Rattle.tq_exec.proofs.aggregate.columns_of.Given as goal

abbrev pub invariant-places : goal.invariant-places
invariant-places l = l.columns.items ≡ take l.place-index l.places
