-- There is a sum of no rows for each of the columns so far.
use Rattle.std.proofs.Common.{◌≡◌, [], map, take}
use Rattle.tq_totals.specs.Sums.{row_sum}
use Rattle.tq_totals.proofs.sums.Sums.zero.Given as goal

abbrev pub invariant-columns : goal.invariant-columns
invariant-columns l = l.items.items ≡ map (row_sum []) (take l._column-index l.summed)
