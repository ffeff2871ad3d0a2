use Rattle.std.proofs.Common.{◌≡◌, ◌≤◌, ◌<◌, ◌+◌, ◌∷◌, [], ℕ, List, cond, length, take, drop, set, get_or, sym, subst, ap, ◌∙◌, arith}
use Rattle.std.proofs.lemmas.Grind.{drop_more_same}
use Rattle.std.proofs.lemmas.List.{drop-set-lt, get_or-drop, get_or_default, take_all}
use Rattle.tq_base.specs.declared.fragment.Fragment.{Fragment}
use Rattle.tq_base.specs.declared.period.Period.{Period}
use Rattle.tq_base.specs.declared.value.Value.{Value}
use Rattle.tq_base.specs.Fragments.{at, copies, occurrences}
use Rattle.tq_base.specs.Periods.{holds}
use Rattle.tq_base.specs.Relations.{column_of}
use Rattle.tq_agg.specs.declared.buckets.Bucket.{Bucket}
use Rattle.tq_agg.specs.declared.buckets.Tally.{Tally}
use Rattle.tq_agg.specs.Buckets.{value_of, AreRanked}
use Rattle.tq_agg.specs.Changes.{totals_changed, AreChangesCut, AreWeighed, ChangeInside}
use Rattle.tq_agg.specs.Grouping.{grouped_rows}
use Rattle.tq_agg.specs.Totals.{shown_copies}
use Rattle.tq_agg.proofs.BucketSums.{adds_sums, all_summed, totals_weighed}
use Rattle.tq_agg.proofs.Instants.{inside_from_counts, outside_from_counts}
use Rattle.tq_agg.proofs.bucket_sums.sum_in_buckets.Goals as goal

-- if the rest of two lists is the same, so is its first element
same_there : (items others : List Bucket) (i : ℕ) (d : Bucket) → drop i items ≡ drop i others → get_or items i d ≡ get_or others i d
same_there items others i d same =
    ap (λ n. get_or items n d) here ∙ sym (get_or-drop i items 0 d) ∙ ap (λ l. get_or l 0 d) same ∙ get_or-drop i others 0 d ∙ ap (λ n. get_or others n d) (sym here)
  where
    here : i ≡ i + 0
    here = omega arith

rest_same : (items others : List Bucket) (i : ℕ) (b : Bucket) → drop i items ≡ drop i others → drop (i + 1) (set items i b) ≡ drop (i + 1) others
rest_same items others i b same = drop-set-lt (i + 1) items i b (omega arith) ∙ drop_more_same items others i same

-- what is known of the buckets
ranked : (rows : List Fragment) (window : Period) (column summed : ℕ) (buckets : Tally) (items : List Bucket) → items ≡ buckets.list.items → AreWeighed rows window column summed buckets
    → AreRanked (column_of rows column) buckets.ranks.items items
ranked rows window column summed buckets items all is = subst (AreRanked (column_of rows column) buckets.ranks.items) (sym all) is.ranked

cut : (rows : List Fragment) (window : Period) (column summed : ℕ) (buckets : Tally) (items : List Bucket) → items ≡ buckets.list.items → AreWeighed rows window column summed buckets → AreChangesCut window items
cut rows window column summed buckets items all is = subst (AreChangesCut window) (sym all) is.cut

pub sweep_weighed-requires-clause-starts : goal.sweep_weighed-requires-clause-starts
sweep_weighed-requires-clause-starts c =
    let items = c.deref_mut-bucket-items.result.now in
    let i = c.buckets.bucket-index in
    let inside = cut c.args.rows.now.items c.args.window.now c.args.column c.args.summed c.in_ok-buckets.buckets items c.deref_mut-bucket-items.ensures.value (c.in_ok-buckets.ensures c.if-not-buckets.false) in
    subst (λ (b : Bucket). ChangeInside c.args.window.now b.changes.starts.items) (sym (same_there c.buckets.bucket-items items i c.bucket-item.result c.buckets.invariant.rest)) (inside i c.bucket-item.result c.buckets-test.true).0

pub sweep_weighed-requires-clause-ends : goal.sweep_weighed-requires-clause-ends
sweep_weighed-requires-clause-ends c =
    let items = c.deref_mut-bucket-items.result.now in
    let i = c.buckets.bucket-index in
    let inside = cut c.args.rows.now.items c.args.window.now c.args.column c.args.summed c.in_ok-buckets.buckets items c.deref_mut-bucket-items.ensures.value (c.in_ok-buckets.ensures c.if-not-buckets.false) in
    subst (λ (b : Bucket). ChangeInside c.args.window.now b.changes.ends.items) (sym (same_there c.buckets.bucket-items items i c.bucket-item.result c.buckets.invariant.rest)) (inside i c.bucket-item.result c.buckets-test.true).1

pub buckets-preserved : goal.buckets-preserved
buckets-preserved c =
    let rows = c.args.rows.now.items in
    let column = column_of rows c.args.column in
    let window = c.args.window.now in
    let items = c.deref_mut-bucket-items.result.now in
    let i = c.buckets.bucket-index in
    let lt : i < length items = c.buckets-test.true in
    let are = ranked rows window c.args.column c.args.summed c.in_ok-buckets.buckets items c.deref_mut-bucket-items.ensures.value (c.in_ok-buckets.ensures c.if-not-buckets.false) in
    let there = same_there c.buckets.bucket-items items i c.bucket-item.result c.buckets.invariant.rest in
    let b : Bucket = get_or items i c.bucket-item.result in
    record {
      width = c.in_ok-sweep_weighed.ensures.width;
      rest = rest_same c.buckets.bucket-items items i c.sweep_weighed.new.bucket c.buckets.invariant.rest;
      copied = λ t v.
          adds_sums column window c.in_ok-buckets.buckets.ranks.items items are i lt b (get_or_default items i c.bucket-item.result b lt) t v (copies c.buckets.out.items v t) (copies c.sweep_weighed.new.out.items v t) (c.buckets.invariant.copied t v)
          (c.in_ok-sweep_weighed.ensures.rows t v
          ∙ ap (λ (x : Bucket). copies c.buckets.out.items v t + cond (holds window t) (shown_copies (value_of column x ∷ []) (totals_changed x.changes.starts.items x.changes.ends.items t) v) 0) there);
    }

-- at the end all rows are counted and summed
all_added : (window : Period) (column summed : ℕ) (rows out : List Fragment) (items : List Bucket) (i : ℕ) (buckets : Tally) → items ≡ buckets.list.items → length items ≤ i → AreWeighed rows window column summed buckets
    → ((t : ℕ) (v : List Value) → copies out v t ≡ cond (holds window t) (shown_copies (take 1 v) (totals_weighed (column_of rows column) t (take 1 v) (take i items)) v) 0)
    → (t : ℕ) (v : List Value) → copies out v t ≡ cond (holds window t) (occurrences (grouped_rows (column ∷ []) (summed ∷ []) (at rows t)) v) 0
all_added window column summed rows out items i buckets all past is copied t v =
    all_summed window column summed rows out t v
    (copied t v
    ∙ ap (λ l. cond (holds window t) (shown_copies (take 1 v) (totals_weighed (column_of rows column) t (take 1 v) l) v) 0) (take_all i items past ∙ all)
    ∙ (λ j. cond (holds window t) (shown_copies (take 1 v) (is.counts t (take 1 v) j ∷ is.sums t (take 1 v) j ∷ []) v) 0))

pub returns-clause-inside : goal.returns-clause-inside
returns-clause-inside c =
    let rows = c.args.rows.now.items in
    inside_from_counts c.args.window.now c.buckets.out.items (λ t v. occurrences (grouped_rows (c.args.column ∷ []) (c.args.summed ∷ []) (at rows t)) v)
    (all_added c.args.window.now c.args.column c.args.summed rows c.buckets.out.items c.deref_mut-bucket-items.result.now c.buckets.bucket-index c.in_ok-buckets.buckets c.deref_mut-bucket-items.ensures.value
    (omega (arith, c.buckets-test.false)) (c.in_ok-buckets.ensures c.if-not-buckets.false) c.buckets.invariant.copied)

pub returns-clause-outside : goal.returns-clause-outside
returns-clause-outside c =
    let rows = c.args.rows.now.items in
    outside_from_counts c.args.window.now c.buckets.out.items (λ t v. occurrences (grouped_rows (c.args.column ∷ []) (c.args.summed ∷ []) (at rows t)) v)
    (all_added c.args.window.now c.args.column c.args.summed rows c.buckets.out.items c.deref_mut-bucket-items.result.now c.buckets.bucket-index c.in_ok-buckets.buckets c.deref_mut-bucket-items.ensures.value
    (omega (arith, c.buckets-test.false)) (c.in_ok-buckets.ensures c.if-not-buckets.false) c.buckets.invariant.copied)
