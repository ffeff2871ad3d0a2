-- The rows with the prefix of the partial aggregates so far are in the bucket.
use Rattle.std.proofs.Common.{◌≡◌, ℕ, List, take}
use Rattle.std.specs.Prelude.{All}
use Rattle.tq_base.specs.declared.period.Period.{Period}
use Rattle.tq_base.specs.declared.value.Value.{Value}
use Rattle.tq_agg.specs.declared.buckets.Tally.{Tally}
use Rattle.tq_agg.specs.Buckets.{bucket_count, counted_in, AreCut, AreRanked, IsFound, IsInside}
use Rattle.tq_agg.proofs.partials.rows_of_rank.Given as goal

abbrev pub invariant-tallies : goal.invariant-tallies
invariant-tallies l = record {
  inside : (window : Period) → All (λ (b : Tally). AreCut window b.list.items) l.tallies → IsInside window l.bucket;
  found : (column : List Value) → All (λ (b : Tally). AreRanked column b.ranks.items b.list.items) l.tallies → IsFound column l.prefix l.bucket;
  counts : (column : List Value) → All (λ (b : Tally). AreRanked column b.ranks.items b.list.items) l.tallies
      → (t : ℕ) (key : List Value) → bucket_count column t key l.bucket ≡ counted_in column l.prefix t key (take l.buckets-index l.tallies);
}
