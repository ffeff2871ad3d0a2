use Rattle.std.proofs.Common.{◌≡◌, ◌<◌, ◌+ℤ◌, ◌∷◌, ◌++◌, ℕ, ℤ, List, [], cond, pos, refl, sym, subst, ap, ◌∙◌, length, get_or, to_z, of_z, w64}
use Rattle.std.specs.Prelude.{IfSome}
use Rattle.std.proofs.lemmas.Int.{to_z-of_z}
use Rattle.std.proofs.lemmas.List.Elements.{All-set}
use Rattle.tq_base.specs.declared.value.Value.{Value}
use Rattle.tq_base.specs.RowValues.{value_at}
use Rattle.tq_base.specs.Periods.{holds, IsOverlap}
use Rattle.tq_agg.specs.declared.changes.Change.{Change}
use Rattle.tq_agg.specs.declared.buckets.Bucket.{Bucket}
use Rattle.tq_agg.specs.Buckets.{value_of, AreRanked}
use Rattle.tq_agg.specs.Changes.{weighed, AreChangesCut, ChangeInside}
use Rattle.tq_agg.specs.Grouping.{same_row}
use Rattle.tq_agg.proofs.Bucketing.{other_endpoints}
use Rattle.tq_agg.proofs.Cutting.{holds-overlap, overlap_within}
use Rattle.tq_agg.proofs.WeighedBuckets.{change_adds, inside-push, AreCutIn}
use Rattle.tq_agg.proofs.bucket_sums.put_change.Goals as goal

-- the bucket, without the row and with it
module _ (c : goal.In_ok-add) where
  abbrev column : List Value
  column = c.args.column.now

  abbrev buckets : List Bucket
  buckets = c.bucket_at.new.buckets.list.items

  abbrev place : ℕ
  place = c.in-Some-2.place

  abbrev old : Bucket
  old = c.index_mut.result.now

  abbrev new : Bucket
  new = record { row = c.index_mut.result.now.row; endpoints = c.index_mut.result.now.endpoints; changes = c.add.new.self }

  pub ranked : AreRanked column c.bucket_at.new.buckets.ranks.items buckets
  ranked = subst (λ found. IfSome found (λ (_ : ℕ). AreRanked column c.bucket_at.new.buckets.ranks.items buckets)) c.in-Some-2.is c.in_ok-place.ensures.ranked

  pub cut : AreChangesCut c.args.window.now buckets
  cut = subst (λ found. IfSome found (λ (_ : ℕ). AreChangesCut c.args.window.now buckets)) c.in-Some-2.is (c.in_ok-place.ensures.changes_cut c.args.window.now c.requires.cut)

  pub within : place < length buckets
  within = subst (λ found. IfSome found (λ (place : ℕ). place < length buckets)) c.in-Some-2.is c.in_ok-place.ensures.within

  pub is : old ≡ get_or buckets place old
  is = c.index_mut.ensures.value

  pub of : value_of column old ≡ value_at column c.args.row
  of = ap (value_of column) is ∙ subst (λ found. IfSome found (λ (place : ℕ). value_of column (get_or buckets place old) ≡ value_at column c.args.row)) c.in-Some-2.is (c.in_ok-place.ensures.value old)

  same : to_z w64 (of_z w64 c.args.weight) ≡ c.args.weight
  same = to_z-of_z w64 c.args.weight c.ranges.weight

  pub starts : new.changes.starts.items ≡ old.changes.starts.items ++ record { at = c.in-Some.shared.start; weight = c.args.weight } ∷ []
  starts = c.in_ok-add.ensures.starts ∙ ap (λ w. old.changes.starts.items ++ record { at = c.in-Some.shared.start; weight = w } ∷ []) same

  pub ends : new.changes.ends.items ≡ old.changes.ends.items ++ record { at = c.in-Some.shared.end; weight = c.args.weight } ∷ []
  ends = c.in_ok-add.ensures.ends ∙ ap (λ w. old.changes.ends.items ++ record { at = c.in-Some.shared.end; weight = w } ∷ []) same

  pub new_inside : AreCutIn c.args.window.now old → AreCutIn c.args.window.now new
  new_inside inside_old =
      let window = c.args.window.now in
      let shared = c.in-Some.shared in
      let both : IsOverlap c.args.period.now window shared = c.in-Some.ensures.value in
      let inside = overlap_within c.args.period.now window shared both in
      let start : Change = record { at = shared.start; weight = c.args.weight } in
      let end : Change = record { at = shared.end; weight = c.args.weight } in (
        subst (ChangeInside window) (sym starts) (inside-push window old.changes.starts.items start inside.0 inside.1 c.ranges.weight inside_old.0),
        subst (ChangeInside window) (sym ends) (inside-push window old.changes.ends.items end inside.2 inside.3 c.ranges.weight inside_old.1),
      )

pub returns-clause-ranked : goal.returns-clause-ranked
returns-clause-ranked c _ = other_endpoints (column c) c.bucket_at.new.buckets.ranks.items (buckets c) (ranked c) (place c) (within c) (old c) (new c) (is c) refl

pub returns-clause-cut : goal.returns-clause-cut
returns-clause-cut c _ =
    All-set (AreCutIn c.args.window.now) (buckets c) (place c) (new c) (new_inside c (subst (AreCutIn c.args.window.now) (sym (is c)) (cut c (place c) (old c) (within c)))) (cut c)

pub returns-clause-weights : goal.returns-clause-weights
returns-clause-weights c _ f t key =
    let weights = subst (λ found. IfSome found (λ (_ : ℕ). (f : ℤ → ℤ) (t : ℕ) (key : List Value) → weighed f (column c) t key (buckets c) ≡ weighed f (column c) t key c.args.buckets.now.list.items)) c.in-Some-2.is c.in_ok-place.ensures.weights in
    let both : IsOverlap c.args.period.now c.args.window.now c.in-Some.shared = c.in-Some.ensures.value in
    change_adds f (column c) t key (buckets c) (place c) (old c) (new c) (value_at (column c) c.args.row) c.in-Some.shared c.args.weight (within c) (is c) refl (of c) (starts c) (ends c)
    ∙ ap (λ n. n +ℤ cond (holds c.in-Some.shared t) (cond (same_row (value_at (column c) c.args.row ∷ []) key) (f c.args.weight) (pos 0)) (pos 0)) (weights f t key)
    ∙ ap (λ h. weighed f (column c) t key c.args.buckets.now.list.items +ℤ cond h (cond (same_row (value_at (column c) c.args.row ∷ []) key) (f c.args.weight) (pos 0)) (pos 0)) (holds-overlap c.args.period.now c.args.window.now c.in-Some.shared both t)
