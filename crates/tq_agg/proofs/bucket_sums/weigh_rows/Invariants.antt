-- The rows so far are in their buckets, each with its number.
use Rattle.std.proofs.Common.{◌≡◌, ℕ, List, take}
use Rattle.tq_base.specs.declared.value.Value.{Value}
use Rattle.tq_base.specs.Relations.{column_of}
use Rattle.tq_agg.specs.declared.summands.Summand.TheVariants.{Column, One}
use Rattle.tq_agg.specs.Buckets.{AreRanked}
use Rattle.tq_agg.specs.Changes.{keyed_weight, one, own, weighed, AreChangesCut}
use Rattle.tq_agg.proofs.bucket_sums.weigh_rows.Given as goal

abbrev pub invariant-rows : goal.invariant-rows
invariant-rows l = record {
  ranked : AreRanked (column_of l.fn.rows.items l.fn.column) l.buckets.ranks.items l.buckets.list.items;
  cut : AreChangesCut l.fn.window l.buckets.list.items;
  counts : (t : ℕ) (key : List Value) → weighed one (column_of l.fn.rows.items l.fn.column) t key l.buckets.list.items ≡ keyed_weight l.fn.column l.fn.window One t key (take l.row l.fn.rows.items);
  sums : (t : ℕ) (key : List Value) → weighed own (column_of l.fn.rows.items l.fn.column) t key l.buckets.list.items ≡ keyed_weight l.fn.column l.fn.window (Column l.fn.summed) t key (take l.row l.fn.rows.items);
}
