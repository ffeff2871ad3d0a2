-- The totals so far were added.
use Rattle.std.proofs.Common.{◌≡◌, ◌++◌, map, take}
use Rattle.tq_base.specs.Contents.{Int}
use Rattle.tq_agg.proofs.sweeping.push_totals.Given as goal

abbrev pub invariant-totals : goal.invariant-totals
invariant-totals l = l.values.items ≡ l.fn.values.items ++ map Int (take l.total-index l.totals)
