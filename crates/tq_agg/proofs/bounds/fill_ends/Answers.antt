use Rattle.std.proofs.Common.{arith, rules}
use Rattle.std.proofs.lemmas.List.Sorted.{answers_always}
use Rattle.tq_agg.specs.declared.bounds.End.{End}
use Rattle.tq_agg.proofs.bounds.fill_ends.Goals as goal

pub returns-clause-sorted : goal.returns-clause-sorted
returns-clause-sorted c = c.sort_unstable_by_key.ensures.sorted (λ (e : End). e.at) (answers_always _ _ _ (λ f a r g h. search rules))

pub push_reserved-requires : goal.push_reserved-requires
push_reserved-requires c = omega (arith, c.keys.invariant.room, c.keys-test.true)
