use Rattle.std.proofs.Common.{◌≡◌, ◌≢◌, ◌<◌, List, length, get_or, sym, subst, ap, ◌∙◌, arith}
use Rattle.std.specs.List.{insert}
use Rattle.std.proofs.lemmas.List.{get_or_default}
use Rattle.tq_base.specs.RowValues.{value_at}
use Rattle.tq_base.specs.Keys.{is_exact}
use Rattle.tq_base.specs.NormalizedKeys.{normalized_key, HasBytes}
use Rattle.tq_agg.specs.declared.buckets.Bucket.{Bucket}
use Rattle.tq_agg.specs.Buckets.{counted, AreCut, AreRanked, HasExactKey}
use Rattle.tq_agg.specs.Changes.{weighed, AreChangesCut}
use Rattle.tq_agg.proofs.Bucketing.{below, empty_adds, empty_is_cut, one_more, value_there}
use Rattle.tq_agg.proofs.WeighedBuckets.{unchanged_adds, unchanged_is_cut}
use Rattle.tq_agg.proofs.buckets.bucket_at.Goals as goal
use Rattle.tq_agg.proofs.buckets.bucket_at.Goals.{else-place-len-via-then-place-len+else-index-prefix, else-place-len-via-else-place-len}

pub returns-then-index-prefix-clause-value : goal.returns-then-index-prefix-clause-value
returns-then-index-prefix-clause-value c d =
    let column = c.args.column.now in
    let ranks = c.args.buckets.now.ranks.items in
    let buckets = c.args.buckets.now.list.items in
    let place = c.place_of-place.result in
    let prefix = c.normalized_key-prefix.result in
    let inside : place < length ranks = omega (arith, c.if-place-len.true, c.len.ensures, c.args.buckets.now.ranks.ok.0) in
    let is : prefix ≡ get_or ranks place prefix = subst (λ n. n ≡ get_or ranks place n) c.if-index-prefix.true c.index.ensures in
    value_there column ranks buckets c.requires place inside prefix (value_at column c.args.row) is
    (c.normalized_key-prefix.ensures.prefix ∙ ap normalized_key c.value.ensures) (subst HasBytes c.value.ensures c.normalized_key-prefix.ensures.bytes) d

pub returns-clause-ranked : goal.returns-clause-ranked
returns-clause-ranked c =
    let column = c.args.column.now in
    let ranks = c.args.buckets.now.ranks.items in
    let buckets = c.args.buckets.now.list.items in
    let place = c.place_of-place.result in
    let prefix = c.normalized_key-prefix.result in
    let b : Bucket = record { row = c.args.row; endpoints = c.none.result; changes = c.none-2.result } in
    let of : prefix ≡ normalized_key (value_at column c.args.row) = c.normalized_key-prefix.ensures.prefix ∙ ap normalized_key c.value.ensures in
    let exact : HasExactKey (value_at column c.args.row) =
    (subst HasBytes c.value.ensures c.normalized_key-prefix.ensures.bytes, ap is_exact (sym of) ∙ sym c.is_exact.ensures ∙ c.if-not-is_exact.false) in
    let there : place ≡ below prefix ranks = c.place_of-place.ensures ∙ ap (below prefix) c.deref.ensures.value in
    let differs : place < length ranks → get_or ranks place 0 ≢ prefix = λ lt same.
    elim c.else-place-len.branch [
      | else-place-len-via-then-place-len+else-index-prefix w ↦ w.if-index-prefix.false (w.index.ensures ∙ get_or_default ranks place w.index.result.now 0 lt ∙ same)
      | else-place-len-via-else-place-len w ↦ absurd (omega (arith, lt, w.if-place-len.false, c.len.ensures, c.args.buckets.now.ranks.ok.0))
    ] in
    let are = one_more column ranks buckets c.requires place prefix b there of exact differs in
    subst (λ l. AreRanked column l c.insert-2.new.self.items) (sym c.in_ok-insert.ensures.items)
    (subst (λ l. AreRanked column (insert ranks place prefix) l) (sym c.in_ok-insert-2.ensures.items) are)

pub returns-clause-cut : goal.returns-clause-cut
returns-clause-cut c window cut =
    let b : Bucket = record { row = c.args.row; endpoints = c.none.result; changes = c.none-2.result } in
    subst (AreCut window) (sym {A = List Bucket} c.in_ok-insert-2.ensures.items) (empty_is_cut window c.args.buckets.now.list.items c.place_of-place.result b c.none.ensures.starts c.none.ensures.ends cut)

pub returns-clause-counts : goal.returns-clause-counts
returns-clause-counts c t key =
    let b : Bucket = record { row = c.args.row; endpoints = c.none.result; changes = c.none-2.result } in
    ap (counted c.args.column.now t key) c.in_ok-insert-2.ensures.items
    ∙ empty_adds c.args.column.now t key c.args.buckets.now.list.items c.place_of-place.result b c.none.ensures.starts c.none.ensures.ends

pub returns-clause-changes_cut : goal.returns-clause-changes_cut
returns-clause-changes_cut c window cut =
    let b : Bucket = record { row = c.args.row; endpoints = c.none.result; changes = c.none-2.result } in
    subst (AreChangesCut window) (sym {A = List Bucket} c.in_ok-insert-2.ensures.items) (unchanged_is_cut window c.args.buckets.now.list.items c.place_of-place.result b c.none-2.ensures.starts c.none-2.ensures.ends cut)

pub returns-clause-weights : goal.returns-clause-weights
returns-clause-weights c f t key =
    let b : Bucket = record { row = c.args.row; endpoints = c.none.result; changes = c.none-2.result } in
    ap (weighed f c.args.column.now t key) c.in_ok-insert-2.ensures.items
    ∙ unchanged_adds f c.args.column.now t key c.args.buckets.now.list.items c.place_of-place.result b c.none-2.ensures.starts c.none-2.ensures.ends
