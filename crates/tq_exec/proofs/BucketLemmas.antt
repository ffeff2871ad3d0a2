-- Counts by one column: the rows of one value are those of a partition of the table, and the chunks of its rows tile it.
use Rattle.std.proofs.Common.{◌≡◌, ◌<◌, ◌+◌, ◌/◌, ◌==◌, ◌∙◌, ℕ, false, true, List, [], ◌∷◌, Option, None, Some, ap, arith, drop, filter, length, refl, sym}
use Rattle.std.specs.Prelude.{All, is_some}
use Rattle.std.proofs.lemmas.List.{length-drop}
use Rattle.tq_base.specs.declared.fragment.Fragment.{Fragment}
use Rattle.tq_base.specs.declared.period.Period.{Period}
use Rattle.tq_base.specs.Fragments.{at, occurrences}
use Rattle.tq_event.specs.Tables.{rows_in}
use Rattle.tq_base.specs.RowValues.{value_at}
use Rattle.tq_condition.specs.Ordinary.{HasInside}
use Rattle.tq_agg.specs.declared.buckets.Tally.{Tally}
use Rattle.tq_agg.specs.Buckets.{rank_share, AreTallies, IsTally}
use Rattle.tq_agg.specs.Grouping.{grouped_rows}
use Rattle.tq_agg.proofs.Tallies.{stretches_tile}
use Rattle.tq_exec.specs.Answers.{in_tables}
use Rattle.tq_exec.specs.Partitioning.{goes_to, in_partition}
use Rattle.tq_run.specs.Results.{IsResultList}
use Rattle.tq_exec.specs.Partitions.{columns_in, partition_of, chunk_start}
use Rattle.tq_exec.proofs.PartitionPartLemmas.{at_left}

-- the chunks of a table
pub table_tallied : (rows : List Fragment) (window : Period) (column : ℕ) (tallies : List Tally)
    → IsResultList (λ i (tally : Tally). tally.is_whole ≡ true → IsTally rows window column (chunk_start (length rows) i) (chunk_start (length rows) (i + 1)) tally) (length rows / 65536 + 1) tallies
    → All (λ (tally : Tally). tally.is_whole ≡ true) tallies → AreTallies rows window column tallies
table_tallied rows window column tallies are whole =
    stretches_tile rows window column (chunk_start (length rows)) tallies (omega arith) (omega (arith, are.0))
    (λ i d less. are.1 i d (omega (arith, less, are.0)) (whole i d less))

-- the counts of the rows of a value are those of the partition that they make
pub partition_counted : (tables : List (List Fragment)) (columns : List (Option ℕ)) (table column number : ℕ) (ranks : List ℕ) (window : Period) (rows counts : List Fragment) → columns_in columns table ≡ Some column → rows ≡ rows_in tables table
    → HasInside window counts (λ t v. occurrences (grouped_rows (column ∷ []) [] (at (filter (λ (row : Fragment). rank_share ranks (value_at row.values column) == number) rows) t)) v)
    → HasInside window counts (λ t v. occurrences (grouped_rows (column ∷ []) [] (in_partition (partition_of (drop 1 ranks)) (columns_in columns) number (in_tables tables) table t)) v)
partition_counted tables columns table column number ranks window rows counts partitioned of counted t v inside =
    counted t v inside
    ∙ ap (λ l. occurrences (grouped_rows (column ∷ []) [] l) v)
    (at_left (λ values. rank_share ranks (value_at values column) == number) rows t
    ∙ ap (λ l. filter (λ values. rank_share ranks (value_at values column) == number) (at l t)) of
    ∙ ap (λ c. filter (goes_to (partition_of (drop 1 ranks)) number c) (at (rows_in tables table) t)) (sym partitioned))

-- there is a piece for each rank: the ranks behind the first are the cuts
pub as_many_cuts : (ranks : List ℕ) → 0 < length ranks → length ranks ≡ length (drop 1 ranks) + 1
as_many_cuts ranks some = omega (arith, some, length-drop 1 ranks)

-- a query that is not there
pub none_there : {X : Type 0} (o : Option X) → is_some o ≡ false → o ≡ None
none_there None none = refl
none_there (Some x) none = cc
