use Rattle.std.proofs.Common.{◌≤◌, length, arith, rules}
use Rattle.std.specs.Ordering.{is_lt}
use Rattle.std.proofs.lemmas.Fn.{always_returns_same}
use Rattle.std.proofs.lemmas.List.Sorted.{ranks_by}
use Rattle.tq_base.specs.declared.sort_input.SortKey.{SortKey}
use Rattle.tq_base.specs.declared.sort_input.Side.{Side}
use Rattle.tq_base.specs.declared.sort_input.Side.TheVariants.{Left, Right}
use Rattle.tq_base.specs.SortInputs.{state_of}
use Rattle.tq_base.specs.Keys.{columns_on}
use Rattle.tq_base.specs.TieBreak.{from_cmp}
use Rattle.tq_base.proofs.TieBreakLemmas.{from_cmp_total, start_cmp, start_cmp_total, start_sorted}
use Rattle.tq_base.proofs.sort_input.SortInput.sort_read.Goals as goal

pub returns-then-place-self-clause-order : goal.returns-then-place-self-clause-order
returns-then-place-self-clause-order c =
    let s = state_of c.args.self.now in
    start_sorted s c.args.place c.args.offset c.sort_unstable_by.new.self past
    (c.sort_unstable_by.ensures.sorted (λ (x y : SortKey). is_lt (start_cmp x y)) (ranks_by start_cmp_total (λ (k : SortKey). k)) (always_returns_same _ _ _ (λ a r f k. search rules)))
  where
    past : (of : Side) → length (columns_on (state_of c.args.self.now) of) ≤ c.args.place
    past Left = c.if-place-self.true
    past Right = omega (arith, c.if-place-self.true, c.args.self.now.same)

pub returns-else-place-self-clause-order : goal.returns-else-place-self-clause-order
returns-else-place-self-clause-order c =
    let s = state_of c.args.self.now in
    c.sort_unstable_by-else-place-self.ensures.sorted (λ (x y : SortKey). is_lt (from_cmp s c.args.place c.args.offset x y)) (ranks_by (from_cmp_total s c.args.place c.args.offset) (λ (k : SortKey). k)) (always_returns_same _ _ _ (λ a r f k. search rules))
