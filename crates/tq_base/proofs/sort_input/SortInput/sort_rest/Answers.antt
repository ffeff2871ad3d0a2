use Rattle.std.proofs.Common.{◌≡◌, ◌≤◌, ◌∙◌, length, map, subst, sym, ap, arith}
use Rattle.std.specs.Prelude.{IsPermutation}
use Rattle.std.proofs.lemmas.List.Sorted.{All-permutation, IsPermutation-map}
use Rattle.tq_base.specs.declared.sort_input.SortKey.{SortKey}
use Rattle.tq_base.specs.declared.sort_input.RunStart.TheVariants.{Unknown}
use Rattle.tq_base.specs.declared.sort_input.Side.{Side}
use Rattle.tq_base.specs.declared.sort_input.Side.TheVariants.{Left, Right}
use Rattle.tq_base.specs.SortInputs.{state_of}
use Rattle.tq_base.specs.Keys.{columns_on, HaveRunStarts}
use Rattle.tq_base.specs.TieBreak.{without_run_start}
use Rattle.tq_base.proofs.TieBreakLemmas.{going_on, run_starts_none, run_starts_sorted, order_same, goes_on_without_run_start}
use Rattle.tq_base.proofs.sort_input.SortInput.sort_rest.Goals as goal

pub returns-then-place-self-clause-same : goal.returns-then-place-self-clause-same
returns-then-place-self-clause-same c =
    subst (IsPermutation (map without_run_start c.args.keys.now)) (sym (ap (map without_run_start) c.set_goes_on.ensures ∙ goes_on_without_run_start c.sort_read.new.keys))
    (IsPermutation-map without_run_start c.args.keys.now c.sort_read.new.keys c.sort_read.ensures.same)

pub returns-then-place-self-clause-order : goal.returns-then-place-self-clause-order
returns-then-place-self-clause-order c =
    run_starts_sorted (state_of c.args.self.now) c.args.place c.args.offset c.sort_read.new.keys c.set_goes_on.new.keys
    (sym (ap (map without_run_start) c.set_goes_on.ensures ∙ goes_on_without_run_start c.sort_read.new.keys)) c.sort_read.ensures.order

pub returns-then-place-self-clause-run_starts : goal.returns-then-place-self-clause-run_starts
returns-then-place-self-clause-run_starts c =
    let s = state_of c.args.self.now in
    subst (HaveRunStarts s) (sym c.set_goes_on.ensures)
    (going_on s c.args.place c.args.offset c.sort_read.new.keys past
    (order_same s 0 0 c.args.place c.args.offset c.args.keys.now c.sort_read.new.keys (IsPermutation-map without_run_start c.args.keys.now c.sort_read.new.keys c.sort_read.ensures.same) c.requires.decides))
  where
    past : (of : Side) → length (columns_on (state_of c.args.self.now) of) ≤ c.args.place
    past Left = c.if-place-self.true
    past Right = omega (arith, c.if-place-self.true, c.args.self.now.same)

pub returns-else-place-self-clause-same : goal.returns-else-place-self-clause-same
returns-else-place-self-clause-same c = IsPermutation-map without_run_start c.args.keys.now c.sort_read.new.keys c.sort_read.ensures.same

pub returns-else-place-self-clause-run_starts : goal.returns-else-place-self-clause-run_starts
returns-else-place-self-clause-run_starts c =
    run_starts_none (state_of c.args.self.now) c.sort_read.new.keys
    (All-permutation (λ (k : SortKey). k.run_start ≡ Unknown) c.args.keys.now c.sort_read.new.keys c.sort_read.ensures.same c.requires.without_run_start)
