use Rattle.std.proofs.Common.{rules}
use Rattle.std.specs.Ordering.{is_le}
use Rattle.std.proofs.lemmas.Fn.{always_returns_same}
use Rattle.tq_base.specs.declared.sort_input.SortKey.{SortKey}
use Rattle.tq_base.specs.SortInputs.{state_of}
use Rattle.tq_base.specs.Keys.{key_cmp}
use Rattle.tq_base.specs.SortKeyLaws.{key_cmp_total}
use Rattle.tq_base.proofs.SortKeyLemmas.{sorted_from_neighbours}
use Rattle.tq_base.proofs.sort_input.SortInput.are_sorted.Goals as goal

pub returns : goal.returns
returns c =
    let s = state_of c.args.self.now in
    sorted_from_neighbours (key_cmp s) (key_cmp_total s) c.args.keys.now c.is_sorted_by.result
    (c.is_sorted_by.ensures.cases (λ (x y : SortKey). is_le (key_cmp s x y)) (always_returns_same _ _ _ (λ a r f k. search rules)))
