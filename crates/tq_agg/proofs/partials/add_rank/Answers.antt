use Rattle.std.proofs.Common.{◌≡◌, ◌≢◌, ◌<◌, ◌≤◌, ◌+ℤ◌, ℕ, inr, List, [], length, get_or, refl, sym, subst, ap, ◌∙◌, arith}
use Rattle.std.proofs.lemmas.Int.{ints}
use Rattle.std.proofs.lemmas.List.{get_or_default}
use Rattle.std.proofs.lemmas.List.Elements.{All-append}
use Rattle.tq_base.specs.declared.value.Value.{Value}
use Rattle.tq_base.specs.NormalizedKeys.{normalized_key}
use Rattle.tq_agg.specs.declared.buckets.Bucket.{Bucket}
use Rattle.tq_agg.specs.Buckets.{bucket_count, value_of, AreRanked, IsInside, HasExactKey}
use Rattle.tq_agg.specs.Endpoints.{AreInside}
use Rattle.tq_agg.proofs.Bucketing.{below}
use Rattle.tq_agg.proofs.OneRank.{both_counted, none_counted_at, one_counted, rank_there}
use Rattle.tq_agg.proofs.partials.add_rank.Goals as goal
use Rattle.tq_agg.proofs.partials.add_rank.Goals.{else-place-len-via-then-place-len+else-index-prefix, else-place-len-via-else-place-len}

-- the place is one of a bucket
module _ (c : goal.In_ok-add_all) where
  abbrev ranks : List ℕ
  ranks = c.args.buckets.now.ranks.items

  abbrev buckets : List Bucket
  buckets = c.args.buckets.now.list.items

  abbrev place : ℕ
  place = c.place_of-place.result

  abbrev found : Bucket
  found = c.index-found.result.now

  pub in_ranks : place < length ranks
  in_ranks = omega (arith, c.if-place-len.true, c.len.ensures, c.args.buckets.now.ranks.ok.0)

  pub in_list : place < length buckets
  in_list = omega (arith, in_ranks, c.requires)

  pub there : found ≡ get_or buckets place found
  there = c.index-found.ensures

  pub is : get_or ranks place 0 ≡ c.args.prefix
  is = get_or_default ranks place 0 c.index.result.now in_ranks ∙ sym c.index.ensures ∙ c.if-index-prefix.true

  pub exact : (column : List Value) → AreRanked column ranks buckets → HasExactKey (value_of column found)
  exact column are = subst (λ b. HasExactKey (value_of column b)) (sym there) (are.2 place found in_list)

  pub of : (column : List Value) → AreRanked column ranks buckets → normalized_key (value_of column found) ≡ c.args.prefix
  of column are = ap (λ b. normalized_key (value_of column b)) there ∙ rank_there column ranks buckets are c.args.prefix place 0 [] in_ranks is found

pub index-found-requires : goal.index-found-requires
index-found-requires c = omega (arith, c.if-place-len.true, c.len.ensures, c.args.buckets.now.ranks.ok.0, c.requires, c.args.buckets.now.list.ok.0)

pub returns-in_ok-add_all-clause-inside : goal.returns-in_ok-add_all-clause-inside
returns-in_ok-add_all-clause-inside c window cut inside =
    let here : IsInside window (found c) = subst (IsInside window) (sym (there c)) (cut (place c) (found c) (in_list c)) in (
      subst (AreInside window) (sym c.in_ok-add_all.ensures.starts) (All-append (λ b. (window.start ≤ b) × (b ≤ window.end)) c.args.bucket.now.endpoints.starts.items (found c).endpoints.starts.items inside.0 here.0),
      subst (AreInside window) (sym c.in_ok-add_all.ensures.ends) (All-append (λ b. (window.start ≤ b) × (b ≤ window.end)) c.args.bucket.now.endpoints.ends.items (found c).endpoints.ends.items inside.1 here.1),
    )

pub returns-in_ok-add_all-clause-found : goal.returns-in_ok-add_all-clause-found
returns-in_ok-add_all-clause-found c column are _ = inr (exact c column are, of c column are)

pub returns-in_ok-add_all-clause-counts : goal.returns-in_ok-add_all-clause-counts
returns-in_ok-add_all-clause-counts c column are is_found t key =
    let new : Bucket = record { row = (found c).row; endpoints = c.add_all.new.self; changes = c.args.bucket.now.changes } in
    both_counted column c.args.prefix t key c.args.bucket.now (found c) new is_found (exact c column are) (of c column are) refl c.in_ok-add_all.ensures.starts c.in_ok-add_all.ensures.ends
    ∙ ap (λ n. bucket_count column t key c.args.bucket.now +ℤ n)
    (ap (bucket_count column t key) (there c) ∙ sym (one_counted column (ranks c) (buckets c) are c.args.prefix (place c) t key (in_ranks c) (is c) (found c)))

pub returns-else-place-len-clause-counts : goal.returns-else-place-len-clause-counts
returns-else-place-len-clause-counts c column are _ t key =
    let ranks = c.args.buckets.now.ranks.items in
    let place = c.place_of-place.result in
    let prefix = c.args.prefix in
    let at : place ≡ below prefix ranks = c.place_of-place.ensures ∙ ap (below prefix) c.deref.ensures.value in
    let differs : place < length ranks → get_or ranks place 0 ≢ prefix = λ lt same.
    elim c.else-place-len.branch [
      | else-place-len-via-then-place-len+else-index-prefix w ↦ w.if-index-prefix.false (w.index.ensures ∙ get_or_default ranks place w.index.result.now 0 lt ∙ same)
      | else-place-len-via-else-place-len w ↦ absurd (omega (arith, lt, w.if-place-len.false, c.len.ensures, c.args.buckets.now.ranks.ok.0))
    ] in
    omega (arith, ints, none_counted_at column ranks c.args.buckets.now.list.items are prefix place t key at differs)
