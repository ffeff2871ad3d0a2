-- The count, then the sums of the columns so far.
use Rattle.std.proofs.Common.{◌≡◌, ◌∷◌, map, take}
use Rattle.tq_agg.specs.declared.summands.Summand.TheVariants.{Column, One}
use Rattle.tq_agg.proofs.summands.summands_of.Given as goal

abbrev pub invariant-columns : goal.invariant-columns
invariant-columns l = l.summands.items ≡ One ∷ map Column (take l.column-index l.columns)
