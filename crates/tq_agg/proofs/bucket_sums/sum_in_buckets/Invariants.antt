-- The result rows of the buckets so far were added.
use Rattle.std.proofs.Common.{◌≡◌, ℕ, List, cond, drop, take}
use Rattle.tq_base.specs.declared.value.Value.{Value}
use Rattle.tq_base.specs.Fragments.{copies}
use Rattle.tq_base.specs.Periods.{holds}
use Rattle.tq_base.specs.Relations.{column_of}
use Rattle.tq_agg.specs.Totals.{shown_copies}
use Rattle.tq_agg.proofs.BucketSums.{totals_weighed}
use Rattle.tq_agg.proofs.bucket_sums.sum_in_buckets.Given as goal

abbrev pub invariant-buckets : goal.invariant-buckets
invariant-buckets l = record {
  width : l.out.width ≡ 3;
  rest : drop l.bucket-index l.bucket-items ≡ drop l.bucket-index l.initial.bucket-items;
  copied : (t : ℕ) (v : List Value) → copies l.out.items v t ≡ cond (holds l.fn.window t) (shown_copies (take 1 v) (totals_weighed (column_of l.fn.rows.items l.fn.column) t (take 1 v) (take l.bucket-index l.initial.bucket-items)) v) 0;
}
