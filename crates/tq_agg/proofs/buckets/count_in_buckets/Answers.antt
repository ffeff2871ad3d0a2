use Rattle.std.proofs.Common.{◌≡◌, ◌<◌, ◌≤◌, ◌+◌, ◌∷◌, [], ℕ, List, cond, length, take, drop, set, get_or, sym, subst, ap, ◌∙◌, arith}
use Rattle.std.proofs.lemmas.Int.{ints}
use Rattle.std.proofs.lemmas.Grind.{drop_more_same}
use Rattle.std.proofs.lemmas.List.{drop-set-lt, get_or-drop, get_or_default, take_all}
use Rattle.tq_base.specs.declared.fragment.Fragment.{Fragment}
use Rattle.tq_base.specs.declared.period.Period.{Period}
use Rattle.tq_base.specs.declared.value.Value.{Value}
use Rattle.tq_base.specs.Fragments.{at, copies, occurrences}
use Rattle.tq_base.specs.Periods.{holds}
use Rattle.tq_base.specs.Relations.{column_of}
use Rattle.tq_agg.specs.declared.buckets.Bucket.{Bucket}
use Rattle.tq_agg.specs.declared.buckets.Tally.{Tally}
use Rattle.tq_agg.specs.Buckets.{counted, keyed_count, value_of, AreCut, AreRanked, IsTally}
use Rattle.tq_agg.specs.Endpoints.{count_upto, AreInside}
use Rattle.tq_agg.specs.Grouping.{grouped_rows}
use Rattle.tq_agg.specs.Totals.{shown_copies}
use Rattle.tq_agg.proofs.BucketRows.{adds_bucket, all_shown}
use Rattle.tq_agg.proofs.Instants.{inside_from_counts, outside_from_counts}
use Rattle.tq_agg.proofs.buckets.count_in_buckets.Goals as goal

-- if the rest of two lists is the same, so is its first element
same_there : (items others : List Bucket) (i : ℕ) (d : Bucket) → drop i items ≡ drop i others → get_or items i d ≡ get_or others i d
same_there items others i d same =
    ap (λ n. get_or items n d) here ∙ sym (get_or-drop i items 0 d) ∙ ap (λ l. get_or l 0 d) same ∙ get_or-drop i others 0 d ∙ ap (λ n. get_or others n d) (sym here)
  where
    here : i ≡ i + 0
    here = omega arith

rest_same : (items others : List Bucket) (i : ℕ) (b : Bucket) → drop i items ≡ drop i others → drop (i + 1) (set items i b) ≡ drop (i + 1) others
rest_same items others i b same = drop-set-lt (i + 1) items i b (omega arith) ∙ drop_more_same items others i same

-- what is known of the buckets
ranked : (rows : List Fragment) (window : Period) (column start end : ℕ) (buckets : Tally) (items : List Bucket) → items ≡ buckets.list.items → IsTally rows window column start end buckets
    → AreRanked (column_of rows column) buckets.ranks.items items
ranked rows window column start end buckets items all is = subst (AreRanked (column_of rows column) buckets.ranks.items) (sym all) is.ranked

cut : (rows : List Fragment) (window : Period) (column start end : ℕ) (buckets : Tally) (items : List Bucket) → items ≡ buckets.list.items → IsTally rows window column start end buckets → AreCut window items
cut rows window column start end buckets items all is = subst (AreCut window) (sym all) is.cut

pub sweep_bucket-requires-clause-starts : goal.sweep_bucket-requires-clause-starts
sweep_bucket-requires-clause-starts c =
    let items = c.deref_mut-bucket-items.result.now in
    let i = c.buckets.bucket-index in
    let inside = cut c.args.rows.now.items c.args.window.now c.args.column 0 c.len.result c.in_ok-buckets.buckets items c.deref_mut-bucket-items.ensures.value (c.in_ok-buckets.ensures c.if-not-buckets.false) in
    subst (λ (b : Bucket). AreInside c.args.window.now b.endpoints.starts.items) (sym (same_there c.buckets.bucket-items items i c.bucket-item.result c.buckets.invariant.rest)) (inside i c.bucket-item.result c.buckets-test.true).0

pub sweep_bucket-requires-clause-ends : goal.sweep_bucket-requires-clause-ends
sweep_bucket-requires-clause-ends c =
    let items = c.deref_mut-bucket-items.result.now in
    let i = c.buckets.bucket-index in
    let inside = cut c.args.rows.now.items c.args.window.now c.args.column 0 c.len.result c.in_ok-buckets.buckets items c.deref_mut-bucket-items.ensures.value (c.in_ok-buckets.ensures c.if-not-buckets.false) in
    subst (λ (b : Bucket). AreInside c.args.window.now b.endpoints.ends.items) (sym (same_there c.buckets.bucket-items items i c.bucket-item.result c.buckets.invariant.rest)) (inside i c.bucket-item.result c.buckets-test.true).1

pub buckets-preserved : goal.buckets-preserved
buckets-preserved c =
    let rows = c.args.rows.now.items in
    let column = column_of rows c.args.column in
    let window = c.args.window.now in
    let items = c.deref_mut-bucket-items.result.now in
    let i = c.buckets.bucket-index in
    let lt : i < length items = c.buckets-test.true in
    let are = ranked rows window c.args.column 0 c.len.result c.in_ok-buckets.buckets items c.deref_mut-bucket-items.ensures.value (c.in_ok-buckets.ensures c.if-not-buckets.false) in
    let there = same_there c.buckets.bucket-items items i c.bucket-item.result c.buckets.invariant.rest in
    let b : Bucket = get_or items i c.bucket-item.result in
    record {
      width = c.in_ok-sweep_bucket.ensures.width;
      rest = rest_same c.buckets.bucket-items items i c.sweep_bucket.new.bucket c.buckets.invariant.rest;
      copied = λ t v.
          adds_bucket column window c.in_ok-buckets.buckets.ranks.items items are i lt b (get_or_default items i c.bucket-item.result b lt) t v (copies c.buckets.out.items v t) (copies c.sweep_bucket.new.out.items v t) (c.buckets.invariant.copied t v)
          (c.in_ok-sweep_bucket.ensures.rows t v
          ∙ ap (λ (x : Bucket). copies c.buckets.out.items v t + cond (holds window t) (shown_copies (value_of column x ∷ []) (count_upto x.endpoints.starts.items x.endpoints.ends.items t ∷ []) v) 0) there);
    }

-- at the end all rows are counted
all_counted : (window : Period) (column end : ℕ) (rows out : List Fragment) (items : List Bucket) (i : ℕ) (buckets : Tally) → items ≡ buckets.list.items → length items ≤ i → length rows ≤ end → IsTally rows window column 0 end buckets
    → ((t : ℕ) (v : List Value) → copies out v t ≡ cond (holds window t) (shown_copies (take 1 v) (counted (column_of rows column) t (take 1 v) (take i items) ∷ []) v) 0)
    → (t : ℕ) (v : List Value) → copies out v t ≡ cond (holds window t) (occurrences (grouped_rows (column ∷ []) [] (at rows t)) v) 0
all_counted window column end rows out items i buckets all past whole is copied t v =
    all_shown window column rows out t v
    (copied t v
    ∙ ap (λ n. cond (holds window t) (shown_copies (take 1 v) (n ∷ []) v) 0)
    (ap (counted (column_of rows column) t (take 1 v)) (take_all i items past ∙ all)
    ∙ counts (take 1 v)
    ∙ ap (keyed_count column window t (take 1 v)) (take_all end rows whole)))
  where
    counts : (key : List Value) → counted (column_of rows column) t key buckets.list.items ≡ keyed_count column window t key (take end rows)
    counts key = omega (arith, ints, is.counts t key)

pub returns-clause-inside : goal.returns-clause-inside
returns-clause-inside c =
    let rows = c.args.rows.now.items in
    let end : length rows ≤ c.len.result = omega (arith, c.len.ensures.len) in
    inside_from_counts c.args.window.now c.buckets.out.items (λ t v. occurrences (grouped_rows (c.args.column ∷ []) [] (at rows t)) v)
    (all_counted c.args.window.now c.args.column c.len.result rows c.buckets.out.items c.deref_mut-bucket-items.result.now c.buckets.bucket-index c.in_ok-buckets.buckets c.deref_mut-bucket-items.ensures.value
    (omega (arith, c.buckets-test.false)) end (c.in_ok-buckets.ensures c.if-not-buckets.false) c.buckets.invariant.copied)

pub returns-clause-outside : goal.returns-clause-outside
returns-clause-outside c =
    let rows = c.args.rows.now.items in
    let end : length rows ≤ c.len.result = omega (arith, c.len.ensures.len) in
    outside_from_counts c.args.window.now c.buckets.out.items (λ t v. occurrences (grouped_rows (c.args.column ∷ []) [] (at rows t)) v)
    (all_counted c.args.window.now c.args.column c.len.result rows c.buckets.out.items c.deref_mut-bucket-items.result.now c.buckets.bucket-index c.in_ok-buckets.buckets c.deref_mut-bucket-items.ensures.value
    (omega (arith, c.buckets-test.false)) end (c.in_ok-buckets.ensures c.if-not-buckets.false) c.buckets.invariant.copied)
