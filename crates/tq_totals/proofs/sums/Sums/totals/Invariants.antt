-- The totals of the sums so far were listed.
use Rattle.std.proofs.Common.{◌≡◌, map, take}
use Rattle.tq_totals.proofs.sums.Sums.totals.Given as goal

abbrev pub invariant-sums : goal.invariant-sums
invariant-sums l = l.totals.items ≡ map (λ sum. sum.total) (take l.sum-index l.self)
