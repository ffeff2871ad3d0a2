use Rattle.std.proofs.Common.{List, rules, subst}
use Rattle.std.specs.Prelude.{IsPermutation}
use Rattle.std.specs.Ordering.{is_lt}
use Rattle.std.proofs.lemmas.Fn.{always_returns_same}
use Rattle.std.proofs.lemmas.List.Sorted.{ranks_by}
use Rattle.tq_check.specs.declared.key_rows.KeyedRow.{KeyedRow}
use Rattle.tq_check.specs.KeyRows.{key_order_cmp}
use Rattle.tq_check.proofs.KeyOrderLemmas.{key_order_total}
use Rattle.tq_check.proofs.key_rows.rows_by_key.Goals as goal

pub returns : goal.returns
returns c = record {
  permuted = subst (λ (l : List KeyedRow). IsPermutation l c.sort_unstable_by.new.self.items) c.in_ok-order.ensures c.sort_unstable_by.ensures.permutation;
  sorted = c.sort_unstable_by.ensures.sorted (λ (x y : KeyedRow). is_lt (key_order_cmp x y)) (ranks_by key_order_total (λ (row : KeyedRow). row)) (always_returns_same _ _ _ (λ a r f k. search rules));
}
