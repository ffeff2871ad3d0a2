-- The bounds of changes in order are in order.
use Rattle.std.proofs.Common.{rules}
use Rattle.std.proofs.lemmas.List.Sorted.{answers_always}
use Rattle.tq_agg.specs.declared.changes.Change.{Change}
use Rattle.tq_agg.proofs.ChangeTotals.{bounds_sorted}
use Rattle.tq_agg.proofs.changes.Changes.sort.Goals as goal

pub returns-clause-starts_sorted : goal.returns-clause-starts_sorted
returns-clause-starts_sorted c =
    bounds_sorted c.sort_unstable_by_key.new.self.items (c.sort_unstable_by_key.ensures.sorted (λ (x : Change). x.at) (answers_always _ _ _ (λ f a r g h. search rules)))

pub returns-clause-ends_sorted : goal.returns-clause-ends_sorted
returns-clause-ends_sorted c =
    bounds_sorted c.sort_unstable_by_key-2.new.self.items (c.sort_unstable_by_key-2.ensures.sorted (λ (x : Change). x.at) (answers_always _ _ _ (λ f a r g h. search rules)))
