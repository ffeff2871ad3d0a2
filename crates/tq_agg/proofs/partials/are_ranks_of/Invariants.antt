-- The prefixes of the partial aggregates so far are among all.
use Rattle.std.proofs.Common.{All, take}
use Rattle.tq_agg.specs.declared.buckets.Tally.{Tally}
use Rattle.tq_agg.specs.Buckets.{IsAmong}
use Rattle.tq_agg.proofs.partials.are_ranks_of.Given as goal

abbrev pub invariant-tallies : goal.invariant-tallies
invariant-tallies l = All (λ (b : Tally). All (IsAmong l.ranks) b.ranks.items) (take l.buckets-index l.tallies)
