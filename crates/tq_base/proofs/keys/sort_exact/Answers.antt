use Rattle.std.proofs.Common.{rules}
use Rattle.std.specs.Ordering.{is_lt}
use Rattle.std.proofs.lemmas.Fn.{always_returns_same}
use Rattle.std.proofs.lemmas.List.Sorted.{ranks_by}
use Rattle.tq_base.specs.declared.sort_input.SortKey.{SortKey}
use Rattle.tq_base.specs.Keys.{prefix_start_cmp}
use Rattle.tq_base.proofs.SortKeyLemmas.{prefix_start_total}
use Rattle.tq_base.proofs.keys.sort_exact.Goals as goal

pub returns-in_ok-sort_by-clause-order : goal.returns-in_ok-sort_by-clause-order
returns-in_ok-sort_by-clause-order c =
    c.in_ok-sort_by.ensures.sorted (λ (x y : SortKey). is_lt (prefix_start_cmp x y)) (ranks_by prefix_start_total (λ (k : SortKey). k)) (always_returns_same _ _ _ (λ a r f k. search rules))

pub returns-then-not-sort_packed-clause-order : goal.returns-then-not-sort_packed-clause-order
returns-then-not-sort_packed-clause-order c =
    c.sort_unstable_by.ensures.sorted (λ (x y : SortKey). is_lt (prefix_start_cmp x y)) (ranks_by prefix_start_total (λ (k : SortKey). k)) (always_returns_same _ _ _ (λ a r f k. search rules))
