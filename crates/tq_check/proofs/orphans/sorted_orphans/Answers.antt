use Rattle.std.proofs.Common.{List, rules, subst, sym}
use Rattle.std.specs.Prelude.{IsPermutation}
use Rattle.std.specs.Ordering.{is_lt}
use Rattle.std.proofs.lemmas.Fn.{always_returns_same}
use Rattle.std.proofs.lemmas.List.Sorted.{ranks_by}
use Rattle.tq_base.specs.SortInputs.{state_of}
use Rattle.tq_check.specs.Covers.{AreCovers}
use Rattle.tq_check.specs.Orphans.{orphan_cmp}
use Rattle.tq_check.specs.declared.covers.Cover.{Cover}
use Rattle.tq_check.specs.declared.orphans.Orphan.{Orphan}
use Rattle.tq_check.proofs.LinkLemmas.{orphan_total}
use Rattle.tq_check.proofs.orphans.sorted_orphans.Goals as goal

pub orphans_in-requires-clause-covers : goal.orphans_in-requires-clause-covers
orphans_in-requires-clause-covers c = subst (λ (l : List Cover). AreCovers (state_of c.args.sort_input.now) l) (sym c.deref.ensures.value) c.in_ok-covers.ensures

pub returns : goal.returns
returns c =
    let children = c.args.sort_input.now.left.now.items in
    let column = c.args.reference.now.child.column in
    record {
      permuted = subst (λ (l : List Orphan). IsPermutation l c.sort_unstable_by.new.self.items) c.in_ok-orphans.ensures c.sort_unstable_by.ensures.permutation;
      sorted = c.sort_unstable_by.ensures.sorted (λ (x y : Orphan). is_lt (orphan_cmp children column x y)) (ranks_by (orphan_total children column) (λ (row : Orphan). row)) (always_returns_same _ _ _ (λ a r f k. search rules));
    }
