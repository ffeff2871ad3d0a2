use Rattle.std.proofs.Common.{get_or, map, subst}
use Rattle.std.specs.Prelude.{◌≡◌, [], All, IsSorted}
use Rattle.std.proofs.lemmas.List.Sorted.{All-permutation, IsPermutation-map, IsPermutation-refl}
use Rattle.tq_base.specs.declared.sort_input.SortKey.{SortKey}
use Rattle.tq_base.specs.declared.sort_input.RunStart.TheVariants.{Unknown}
use Rattle.tq_base.specs.SortInputs.{state_of}
use Rattle.tq_base.specs.Keys.{held, key_cmp, key_values, values_left, AreExact, IsFresh, IsSortKey, SortInputState}
use Rattle.tq_base.specs.SortKeyLaws.{rises}
use Rattle.tq_base.specs.TieBreak.{HaveNoRunStarts}
use Rattle.std.specs.Prelude.{List}
use Rattle.tq_base.proofs.SortKeyLemmas.{exact_sorted}
use Rattle.tq_base.proofs.TieBreakLemmas.{key_sorted, keys_all, run_starts_none, prefix_first, rows_same}
use Rattle.tq_base.proofs.sort_input.SortInput.sort.Goals as goal

are_keys : (s : SortInputState) (keys : List SortKey) → All (IsFresh s) keys → All (IsSortKey s) keys
are_keys s keys fresh i d less = (fresh i d less).key

are_unmarked : (s : SortInputState) (keys : List SortKey) → All (IsFresh s) keys → HaveNoRunStarts keys
are_unmarked s keys fresh i d less = (fresh i d less).without_run_start

pub returns-then-are_sorted-clause-rows : goal.returns-then-are_sorted-clause-rows
returns-then-are_sorted-clause-rows c = IsPermutation-refl (map (held (state_of c.args.self.now)) c.args.keys.now.items)

pub returns-then-are_sorted-clause-keys : goal.returns-then-are_sorted-clause-keys
returns-then-are_sorted-clause-keys c = are_keys (state_of c.args.self.now) c.args.keys.now.items c.requires.keys

pub returns-then-are_sorted-clause-run_starts : goal.returns-then-are_sorted-clause-run_starts
returns-then-are_sorted-clause-run_starts c =
    let s = state_of c.args.self.now in
    run_starts_none s c.args.keys.now.items (are_unmarked s c.args.keys.now.items c.requires.keys)

pub returns-then-are_sorted-clause-rises : goal.returns-then-are_sorted-clause-rises
returns-then-are_sorted-clause-rises c =
    let s = state_of c.args.self.now in
    rises s c.args.keys.now.items (subst (IsSorted (key_cmp s)) c.deref.ensures.value c.if-are_sorted.ensures) (are_keys s c.args.keys.now.items c.requires.keys)

pub returns-in_ok-sort_exact-clause-keys : goal.returns-in_ok-sort_exact-clause-keys
returns-in_ok-sort_exact-clause-keys c =
    All-permutation (IsSortKey (state_of c.args.self.now)) c.args.keys.now.items c.sort_exact.new.keys.items c.in_ok-sort_exact.ensures.same (are_keys (state_of c.args.self.now) c.args.keys.now.items c.requires.keys)

pub returns-in_ok-sort_exact-clause-rows : goal.returns-in_ok-sort_exact-clause-rows
returns-in_ok-sort_exact-clause-rows c = IsPermutation-map (held (state_of c.args.self.now)) c.args.keys.now.items c.sort_exact.new.keys.items c.in_ok-sort_exact.ensures.same

pub returns-in_ok-sort_exact-clause-run_starts : goal.returns-in_ok-sort_exact-clause-run_starts
returns-in_ok-sort_exact-clause-run_starts c =
    let s = state_of c.args.self.now in
    run_starts_none s c.sort_exact.new.keys.items
    (All-permutation (λ (k : SortKey). k.run_start ≡ Unknown) c.args.keys.now.items c.sort_exact.new.keys.items c.in_ok-sort_exact.ensures.same (are_unmarked s c.args.keys.now.items c.requires.keys))

pub returns-in_ok-sort_exact-clause-order : goal.returns-in_ok-sort_exact-clause-order
returns-in_ok-sort_exact-clause-order c =
    let s = state_of c.args.self.now in
    exact_sorted s c.sort_exact.new.keys.items
    (All-permutation (λ (k : SortKey). values_left k.prefix (key_values s k) ≡ []) c.args.keys.now.items c.sort_exact.new.keys.items c.in_ok-sort_exact.ensures.same
    (subst (AreExact s) c.deref-2.ensures.value c.if-are_exact.ensures))
    c.in_ok-sort_exact.ensures.order

pub returns-in_ok-sort_exact-clause-rises : goal.returns-in_ok-sort_exact-clause-rises
returns-in_ok-sort_exact-clause-rises c =
    rises (state_of c.args.self.now) c.sort_exact.new.keys.items (returns-in_ok-sort_exact-clause-order c) (returns-in_ok-sort_exact-clause-keys c)

pub break_ties-requires : goal.break_ties-requires
break_ties-requires c = record {
  prefixes = λ i d less. prefix_first (state_of c.args.self.now) (get_or c.args.keys.now.items i d) (c.requires.keys i d less).key;
  without_run_start = are_unmarked (state_of c.args.self.now) c.args.keys.now.items c.requires.keys;
}

pub returns-else-are_exact-clause-rows : goal.returns-else-are_exact-clause-rows
returns-else-are_exact-clause-rows c = rows_same (state_of c.args.self.now) c.args.keys.now.items c.break_ties.new.keys.items c.break_ties.ensures.same

pub returns-else-are_exact-clause-keys : goal.returns-else-are_exact-clause-keys
returns-else-are_exact-clause-keys c =
    keys_all (state_of c.args.self.now) c.args.keys.now.items c.break_ties.new.keys.items c.break_ties.ensures.same (are_keys (state_of c.args.self.now) c.args.keys.now.items c.requires.keys)

pub returns-else-are_exact-clause-order : goal.returns-else-are_exact-clause-order
returns-else-are_exact-clause-order c =
    key_sorted (state_of c.args.self.now) c.break_ties.new.keys.items (returns-else-are_exact-clause-keys c) c.break_ties.ensures.order

pub returns-else-are_exact-clause-rises : goal.returns-else-are_exact-clause-rises
returns-else-are_exact-clause-rises c =
    rises (state_of c.args.self.now) c.break_ties.new.keys.items (returns-else-are_exact-clause-order c) (returns-else-are_exact-clause-keys c)
