use Rattle.std.proofs.Common.{◌≡◌, ◌≤◌, ℕ, ℤ, ◌+◌, pos, cond, nat_le, FitsSigned, ◌∷◌, [], List, sym, ap, ◌∙◌, arith}
use Rattle.std.specs.Prelude.{IsPermutation, IsSorted}
use Rattle.std.specs.Int.{w64}
use Rattle.std.specs.Ordering.{nat_cmp}
use Rattle.std.proofs.lemmas.Int.{ints}
use Rattle.std.proofs.lemmas.List.Sorted.{All-permutation, IsPermutation-map}
use Rattle.std.proofs.lemmas.Result.{on_ok_weaker}
use Rattle.tq_base.specs.declared.period.Period.{Period}
use Rattle.tq_base.specs.declared.value.Value.{Value}
use Rattle.tq_base.specs.Fragments.{copies}
use Rattle.tq_base.specs.RowValues.{value_at}
use Rattle.tq_base.specs.Periods.{holds}
use Rattle.tq_base.specs.Relations.{column_of}
use Rattle.tq_agg.specs.declared.changes.Change.{Change}
use Rattle.tq_agg.specs.Changes.{bounds_of, changed_by, changed_upto, own, one, totals_changed, ChangeInside, HaveSmallWeights}
use Rattle.tq_agg.specs.Endpoints.{AreInOrder}
use Rattle.tq_agg.specs.Totals.{shown_copies}
use Rattle.tq_agg.proofs.Adding.{added-IsPermutation}
use Rattle.tq_agg.proofs.Bucketing.{number_at}
use Rattle.tq_agg.proofs.ChangeTotals.{totals_at}
use Rattle.tq_agg.proofs.Starts.{sorted_rise}
use Rattle.tq_agg.proofs.bucket_sums.sweep_weighed.Goals as goal

-- changes in the order of their bounds come at bounds of the window
in_order : (window : Period) (old new : List Change) → IsPermutation old new → IsSorted nat_cmp (bounds_of new) → ChangeInside window old → AreInOrder window (bounds_of new)
in_order window old new same sorted inside =
    sorted_rise window (bounds_of new) (sorted, All-permutation (λ b. (window.start ≤ b) × (b ≤ window.end)) (bounds_of old) (bounds_of new) (IsPermutation-map (λ (c : Change). c.at) old new same) inside.0)

-- their numbers are small
small_moved : (window : Period) (old new : List Change) → IsPermutation old new → ChangeInside window old → HaveSmallWeights new
small_moved window old new same inside = All-permutation (λ (c : Change). FitsSigned w64 c.weight) old new same inside.1

-- and they add the same
changed_moved : (f : ℤ → ℤ) (old new : List Change) (t : ℕ) → IsPermutation old new → changed_by f new t ≡ changed_by f old t
changed_moved f old new t same = added-IsPermutation (λ (c : Change). cond (nat_le c.at t) (f c.weight) (pos 0)) old new same

pub sweep-requires-clause-starts : goal.sweep-requires-clause-starts
sweep-requires-clause-starts c = in_order c.args.window.now c.args.bucket.now.changes.starts.items c.sort.new.self.starts.items c.sort.ensures.starts c.sort.ensures.starts_sorted c.requires.starts

pub sweep-requires-clause-ends : goal.sweep-requires-clause-ends
sweep-requires-clause-ends c = in_order c.args.window.now c.args.bucket.now.changes.ends.items c.sort.new.self.ends.items c.sort.ensures.ends c.sort.ensures.ends_sorted c.requires.ends

pub sweep-requires-clause-fits : goal.sweep-requires-clause-fits
sweep-requires-clause-fits c = (
  small_moved c.args.window.now c.args.bucket.now.changes.starts.items c.sort.new.self.starts.items c.sort.ensures.starts c.requires.starts,
  small_moved c.args.window.now c.args.bucket.now.changes.ends.items c.sort.new.self.ends.items c.sort.ensures.ends c.requires.ends,
)

pub sweep-requires-clause-width : goal.sweep-requires-clause-width
sweep-requires-clause-width c begun ended = c.requires.width

pub returns-clause-rows : goal.returns-clause-rows
returns-clause-rows c =
    let rows = c.args.rows.now.items in
    let column = c.args.column in
    let window = c.args.window.now in
    let changes = c.args.bucket.now.changes in
    let old = c.args.out.now.items in
    let starts = c.sort.new.self.starts.items in
    let ends = c.sort.new.self.ends.items in
    let start_order = in_order window changes.starts.items starts c.sort.ensures.starts c.sort.ensures.starts_sorted c.requires.starts in
    let end_order = in_order window changes.ends.items ends c.sort.ensures.ends c.sort.ensures.ends_sorted c.requires.ends in
    on_ok_weaker c.sweep.result
    (λ more t v.
    let upto : (f : ℤ → ℤ) → changed_upto f starts ends t ≡ changed_upto f changes.starts.items changes.ends.items t =
    λ f. omega (arith, ints, changed_moved f changes.starts.items starts t c.sort.ensures.starts, changed_moved f changes.ends.items ends t c.sort.ensures.ends) in
    let totals : totals_changed starts ends t ≡ totals_changed changes.starts.items changes.ends.items t = λ i. upto one i ∷ upto own i ∷ [] in
    let key : value_at c.row-row.result column ∷ [] ≡ value_at (column_of rows column) c.args.bucket.now.row ∷ [] =
    ap (λ (l : List Value). value_at l column ∷ []) c.row-row.ensures ∙ ap (λ (w : Value). w ∷ []) (sym (number_at rows column c.args.bucket.now.row)) in
    more t v
    ∙ ap (λ n. copies old v t + cond (holds window t) (shown_copies (value_at c.row-row.result column ∷ []) n v) 0) (totals_at starts ends t start_order.0 end_order.0 ∙ totals)
    ∙ ap (λ k. copies old v t + cond (holds window t) (shown_copies k (totals_changed changes.starts.items changes.ends.items t) v) 0) key)
    c.sweep.ensures.rows
