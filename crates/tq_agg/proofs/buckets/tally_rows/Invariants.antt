-- The rows so far are in their buckets.
use Rattle.std.proofs.Common.{◌≡◌, ◌+ℤ◌, ℕ, List, take}
use Rattle.tq_base.specs.declared.value.Value.{Value}
use Rattle.tq_base.specs.Relations.{column_of}
use Rattle.tq_agg.specs.Buckets.{counted, keyed_count, AreCut, AreRanked}
use Rattle.tq_agg.proofs.buckets.tally_rows.Given as goal

abbrev pub invariant-rows : goal.invariant-rows
invariant-rows l = record {
  ranked : AreRanked (column_of l.fn.rows.items l.fn.column) l.buckets.ranks.items l.buckets.list.items;
  cut : AreCut l.fn.window l.buckets.list.items;
  counts : (t : ℕ) (key : List Value) → keyed_count l.fn.column l.fn.window t key (take l.fn.start l.fn.rows.items) +ℤ counted (column_of l.fn.rows.items l.fn.column) t key l.buckets.list.items ≡ keyed_count l.fn.column l.fn.window t key (take l.row l.fn.rows.items);
}
