use Rattle.std.proofs.Common.{◌≡◌, ◌<◌, ◌+◌, ◌-◌, drop, get_or, map, refl, subst, sym, arith}
use Rattle.std.specs.Prelude.{All, IsPermutation, IsSorted}
use Rattle.std.specs.Bool.{OnTrue}
use borrow.Rule.Slice.PartMut.{mid_of}
use Rattle.std.proofs.lemmas.List.Elements.{All-drop, All-map, All-take}
use Rattle.std.proofs.lemmas.List.Sorted.{All-permutation, IsPermutation-map, IsPermutation-trans}
use Rattle.tq_base.specs.declared.sort_input.SortKey.{SortKey}
use Rattle.tq_base.specs.declared.sort_input.RunStart.TheVariants.{Unknown}
use Rattle.tq_base.specs.declared.sort_input.Side.TheVariants.{Left}
use Rattle.tq_base.specs.SortInputs.{state_of}
use Rattle.tq_base.specs.Keys.{HaveRunStarts}
use Rattle.tq_base.specs.TieBreak.{from_cmp, with_next_prefix, without_run_start, HaveNoRunStarts, HasNextPrefix, SameKeys, SameOrder}
use Rattle.tq_base.proofs.TieBreakLemmas.{back_same, back_sorted, first_run_start, run_start_prefixes, run_starts_sorted, order_part, order_by_prefix, order_same, order_then, prefix_all, run_part, run_some, runs_end, runs_have_starts, runs_more, runs_start, same_put_mid, sorted_before}
use Rattle.tq_base.proofs.sort_input.SortInput.+tie_break.Goals as goal

pub sort_level-runs-init : goal.sort_level-runs-init
sort_level-runs-init t c = record {
  same = IsPermutation-map without_run_start c.args.keys.now c.sort_by_prefix.new.keys c.sort_by_prefix.ensures.same;
  done = runs_start (state_of c.args.self.now) c.args.place c.args.offset c.sort_by_prefix.new.keys c.sort_by_prefix.ensures.order
      (All-permutation (λ (k : SortKey). k.run_start ≡ Unknown) c.args.keys.now c.sort_by_prefix.new.keys c.sort_by_prefix.ensures.same c.requires.without_run_start);
}

pub sort_level-sort_next-start-requires : goal.sort_level-sort_next-start-requires
sort_level-sort_next-start-requires t c =
    (omega (arith, c.decreases), (prefix_all (state_of c.args.self.now) c.args.place c.args.offset c.args.keys.now c.runs.keys c.runs.invariant.same c.requires.prefixes, (c.runs.invariant.done, (c.runs-test.true, order_same (state_of c.args.self.now) 0 0 c.args.place c.args.offset c.args.keys.now c.runs.keys c.runs.invariant.same c.requires.decides))))

pub sort_level-runs-preserved : goal.sort_level-runs-preserved
sort_level-runs-preserved t c = record {
  same = IsPermutation-trans (map without_run_start c.args.keys.now) (map without_run_start c.runs.keys) (map without_run_start c.sort_next-start.new.keys) c.runs.invariant.same c.sort_next-start.ensures.same;
  done = c.sort_next-start.ensures.done;
}

pub sort_level-returns-clause-same : goal.sort_level-returns-clause-same
sort_level-returns-clause-same t c = c.runs.invariant.same

pub sort_level-returns-clause-order : goal.sort_level-returns-clause-order
sort_level-returns-clause-order t c =
    runs_end (state_of c.args.self.now) c.args.place c.args.offset c.runs.keys c.runs.start c.runs.invariant.done c.runs-test.false

pub sort_level-returns-clause-run_starts : goal.sort_level-returns-clause-run_starts
sort_level-returns-clause-run_starts t c =
    runs_have_starts (state_of c.args.self.now) c.args.place c.args.offset c.runs.keys c.runs.start c.runs.invariant.done c.runs-test.false

pub sort_next-sort_run-requires : goal.sort_next-sort_run-requires
sort_next-sort_run-requires t c =
    let s = state_of c.args.self.now in
    let keys = c.args.keys.now in
    let start = c.args.start in
    let P : SortKey → _ = λ (k : SortKey). k.prefix ≡ (get_or keys start (record { prefix = 0; start = 0; row = 0; side = Left; run_start = Unknown })).prefix in (
      omega (arith, c.decreases),
      (
        subst (All P) (run_part keys start c.prefix_run_len.result c.prefix_run_len.ensures.within) c.prefix_run_len.ensures.alike,
        (
          All-take (HasNextPrefix s c.args.place c.args.offset) (start + c.prefix_run_len.result - start) (drop start keys) (All-drop (HasNextPrefix s c.args.place c.args.offset) start keys c.requires.prefixes),
          (
            All-take (λ (k : SortKey). k.run_start ≡ Unknown) (start + c.prefix_run_len.result - start) (drop start keys) c.requires.done.rest,
            order_part s 0 0 c.args.place c.args.offset start (start + c.prefix_run_len.result - start) keys c.requires.decides,
          ),
        ),
      ),
    )

pub sort_next-returns-clause-same : goal.sort_next-returns-clause-same
sort_next-returns-clause-same t c =
    same_put_mid c.args.start (c.args.start + c.prefix_run_len.result - c.args.start) c.args.keys.now c.set_first_run_start.new.keys
    (subst (IsPermutation (map without_run_start (mid_of c.args.start (c.args.start + c.prefix_run_len.result - c.args.start) c.args.keys.now))) (sym c.set_first_run_start.ensures.same) c.sort_run.ensures.same)

pub sort_next-returns-clause-done : goal.sort_next-returns-clause-done
sort_next-returns-clause-done t c =
    let s = state_of c.args.self.now in
    let sorted = c.sort_run.new.run in
    let has_run_start = c.set_first_run_start.new.keys in
    runs_more s c.args.place c.args.offset c.args.keys.now has_run_start c.args.start c.prefix_run_len.result _
    (record { prefix = 0; start = 0; row = 0; side = Left; run_start = Unknown }) c.requires.done c.requires.prefixes c.requires.some refl
    c.prefix_run_len.ensures.within c.prefix_run_len.ensures.alike c.prefix_run_len.ensures.ends
    (subst (IsPermutation (map without_run_start (mid_of c.args.start (c.args.start + c.prefix_run_len.result - c.args.start) c.args.keys.now))) (sym c.set_first_run_start.ensures.same) c.sort_run.ensures.same)
    (run_starts_sorted s c.args.place c.args.offset sorted has_run_start (sym c.set_first_run_start.ensures.same) c.sort_run.ensures.order)
    (first_run_start s sorted has_run_start c.set_first_run_start.ensures.same c.set_first_run_start.ensures.others c.sort_run.ensures.run_starts) c.set_first_run_start.ensures.first

pub sort_next-returns-clause-further : goal.sort_next-returns-clause-further
sort_next-returns-clause-further t c =
    let some = run_some c.args.keys.now c.args.start c.prefix_run_len.result _ (record { prefix = 0; start = 0; row = 0; side = Left; run_start = Unknown }) c.requires.some refl c.prefix_run_len.ensures.ends in
    omega (arith, some)

pub sort_run-sort_level-requires : goal.sort_run-sort_level-requires
sort_run-sort_level-requires t c =
    let some : 0 < c.args.levels = subst (λ b. OnTrue b (0 < c.args.levels)) c.if-takes_next_prefix.true c.takes_next_prefix.ensures.levels in
    let s = state_of c.args.self.now in
    let none : HaveNoRunStarts (map (with_next_prefix s c.next_place-next.result.0 c.next_place-next.result.1) c.args.run.now) =
    All-map (λ (k : SortKey). k.run_start ≡ Unknown) (with_next_prefix s c.next_place-next.result.0 c.next_place-next.result.1) c.args.run.now c.requires.without_run_start in
    let next = c.next_place-next.result.0 in
    let next_offset = c.next_place-next.result.1 in
    let decides = order_by_prefix s 0 0 next next_offset next next_offset c.args.run.now (order_then s c.args.place c.args.offset next next_offset c.args.run.now c.requires.decides c.next_place-next.ensures) in (
      omega (arith, c.decreases, some),
      (c.next_prefixes.ensures.prefixes, (subst HaveNoRunStarts (sym c.next_prefixes.ensures.keys) none, subst (SameOrder s 0 0 next next_offset) (sym c.next_prefixes.ensures.keys) decides)),
    )

pub sort_run-sort_rest-requires : goal.sort_run-sort_rest-requires
sort_run-sort_rest-requires t c = record {
  without_run_start = c.requires.without_run_start;
  decides =
      order_then (state_of c.args.self.now) c.args.place c.args.offset c.next_place-next.result.0 c.next_place-next.result.1 c.args.run.now c.requires.decides c.next_place-next.ensures;
}

pub sort_run-returns-then-takes_next_prefix-clause-same : goal.sort_run-returns-then-takes_next_prefix-clause-same
sort_run-returns-then-takes_next_prefix-clause-same t c =
    let s = state_of c.args.self.now in
    subst (SameKeys c.args.run.now) (sym c.set_prefixes.ensures)
    (back_same s c.args.place c.args.offset c.next_place-next.result.0 c.next_place-next.result.1 c.args.prefix c.args.run.now c.sort_level.new.keys
    (subst (λ l. SameKeys l c.sort_level.new.keys) c.next_prefixes.ensures.keys c.sort_level.ensures.same) c.requires.alike)

pub sort_run-returns-then-takes_next_prefix-clause-order : goal.sort_run-returns-then-takes_next_prefix-clause-order
sort_run-returns-then-takes_next_prefix-clause-order t c =
    let s = state_of c.args.self.now in
    subst (IsSorted (from_cmp s c.args.place c.args.offset)) (sym c.set_prefixes.ensures)
    (back_sorted s c.args.place c.args.offset c.next_place-next.result.0 c.next_place-next.result.1 c.args.prefix c.args.run.now c.sort_level.new.keys
    (subst (λ l. SameKeys l c.sort_level.new.keys) c.next_prefixes.ensures.keys c.sort_level.ensures.same) c.next_place-next.ensures c.sort_level.ensures.order)

pub sort_run-returns-else-takes_next_prefix-clause-order : goal.sort_run-returns-else-takes_next_prefix-clause-order
sort_run-returns-else-takes_next_prefix-clause-order t c =
    let s = state_of c.args.self.now in
    sorted_before s c.args.place c.args.offset c.next_place-next.result.0 c.next_place-next.result.1 c.sort_rest.new.keys
    (order_same s c.args.place c.args.offset c.next_place-next.result.0 c.next_place-next.result.1 c.args.run.now c.sort_rest.new.keys c.sort_rest.ensures.same c.next_place-next.ensures)
    c.sort_rest.ensures.order

pub sort_run-returns-then-takes_next_prefix-clause-run_starts : goal.sort_run-returns-then-takes_next_prefix-clause-run_starts
sort_run-returns-then-takes_next_prefix-clause-run_starts t c =
    subst (HaveRunStarts (state_of c.args.self.now)) (sym c.set_prefixes.ensures)
    (run_start_prefixes (state_of c.args.self.now) c.args.prefix c.sort_level.new.keys c.sort_level.ensures.run_starts)
