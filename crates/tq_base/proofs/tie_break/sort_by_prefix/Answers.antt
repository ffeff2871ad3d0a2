use Rattle.std.proofs.Common.{rules, subst}
use Rattle.std.specs.Prelude.{IsSorted}
use Rattle.std.specs.Bool.{OnTrue}
use Rattle.std.specs.Ordering.{is_le, is_lt}
use Rattle.std.proofs.lemmas.Fn.{always_returns_same}
use Rattle.std.proofs.lemmas.List.Sorted.{ranks_by}
use Rattle.tq_base.specs.declared.sort_input.SortKey.{SortKey}
use Rattle.tq_base.specs.Keys.{prefix_start_cmp}
use Rattle.tq_base.specs.TieBreak.{prefix_cmp}
use Rattle.tq_base.proofs.SortKeyLemmas.{sorted_from_neighbours, prefix_start_total}
use Rattle.tq_base.proofs.TieBreakLemmas.{prefix_cmp_total, prefix_sorted}
use Rattle.tq_base.proofs.tie_break.sort_by_prefix.Goals as goal

pub returns-then-is_sorted_by-clause-order : goal.returns-then-is_sorted_by-clause-order
returns-then-is_sorted_by-clause-order c =
    subst (λ b. OnTrue b (IsSorted prefix_cmp c.args.keys.now)) c.if-is_sorted_by.true
    (sorted_from_neighbours prefix_cmp prefix_cmp_total c.args.keys.now c.is_sorted_by.result
    (c.is_sorted_by.ensures.cases (λ (x y : SortKey). is_le (prefix_cmp x y)) (always_returns_same _ _ _ (λ a r f k. search rules))))

pub returns-clause-order : goal.returns-clause-order
returns-clause-order c =
    prefix_sorted c.sort_unstable_by.new.self
    (c.sort_unstable_by.ensures.sorted (λ (x y : SortKey). is_lt (prefix_start_cmp x y)) (ranks_by prefix_start_total (λ (k : SortKey). k)) (always_returns_same _ _ _ (λ a r f k. search rules)))
