use Rattle.std.proofs.Common.{◌≡◌, ◌<◌, ◌≤◌, ◌+ℤ◌, ◌∷◌, ℕ, List, [], cond, pos, refl, sym, subst, ap, ◌∙◌, length, get_or}
use Rattle.std.specs.Prelude.{IfSome}
use Rattle.std.proofs.lemmas.List.Elements.{All-push, All-set}
use Rattle.tq_base.specs.declared.value.Value.{Value}
use Rattle.tq_base.specs.RowValues.{value_at}
use Rattle.tq_base.specs.Periods.{holds, IsOverlap}
use Rattle.tq_agg.specs.declared.buckets.Bucket.{Bucket}
use Rattle.tq_agg.specs.Buckets.{counted, value_of, AreCut, AreRanked, IsInside}
use Rattle.tq_agg.specs.Endpoints.{AreInside}
use Rattle.tq_agg.specs.Grouping.{same_row}
use Rattle.tq_agg.proofs.Bucketing.{other_endpoints, row_adds}
use Rattle.tq_agg.proofs.Cutting.{holds-overlap, overlap_within}
use Rattle.tq_agg.proofs.buckets.put_row.Goals as goal

-- the bucket, without the row and with it
module _ (c : goal.In_ok-add) where
  abbrev column : List Value
  column = c.args.column.now

  abbrev buckets : List Bucket
  buckets = c.bucket_at.new.buckets.list.items

  abbrev place : ℕ
  place = c.in-Some-2.place

  abbrev old : Bucket
  old = c.index_mut.result.now

  abbrev new : Bucket
  new = record { row = c.index_mut.result.now.row; endpoints = c.add.new.self; changes = c.index_mut.result.now.changes }

  pub ranked : AreRanked column c.bucket_at.new.buckets.ranks.items buckets
  ranked = subst (λ found. IfSome found (λ (_ : ℕ). AreRanked column c.bucket_at.new.buckets.ranks.items buckets)) c.in-Some-2.is c.in_ok-place.ensures.ranked

  pub cut : AreCut c.args.window.now buckets
  cut = subst (λ found. IfSome found (λ (_ : ℕ). AreCut c.args.window.now buckets)) c.in-Some-2.is (c.in_ok-place.ensures.cut c.args.window.now c.requires.cut)

  pub within : place < length buckets
  within = subst (λ found. IfSome found (λ (place : ℕ). place < length buckets)) c.in-Some-2.is c.in_ok-place.ensures.within

  pub is : old ≡ get_or buckets place old
  is = c.index_mut.ensures.value

  pub of : value_of column old ≡ value_at column c.args.row
  of = ap (value_of column) is ∙ subst (λ found. IfSome found (λ (place : ℕ). value_of column (get_or buckets place old) ≡ value_at column c.args.row)) c.in-Some-2.is (c.in_ok-place.ensures.value old)

  pub new_inside : IsInside c.args.window.now old → IsInside c.args.window.now new
  new_inside inside_old =
      let window = c.args.window.now in
      let both : IsOverlap c.args.period.now window c.in-Some.shared = c.in-Some.ensures.value in
      let inside = overlap_within c.args.period.now window c.in-Some.shared both in (
        subst (AreInside window) (sym c.in_ok-add.ensures.starts) (All-push (λ b. (window.start ≤ b) × (b ≤ window.end)) old.endpoints.starts.items c.in-Some.shared.start inside_old.0 (inside.0, inside.1)),
        subst (AreInside window) (sym c.in_ok-add.ensures.ends) (All-push (λ b. (window.start ≤ b) × (b ≤ window.end)) old.endpoints.ends.items c.in-Some.shared.end inside_old.1 (inside.2, inside.3)),
      )

pub returns-clause-ranked : goal.returns-clause-ranked
returns-clause-ranked c _ = other_endpoints (column c) c.bucket_at.new.buckets.ranks.items (buckets c) (ranked c) (place c) (within c) (old c) (new c) (is c) refl

pub returns-clause-cut : goal.returns-clause-cut
returns-clause-cut c _ =
    All-set (IsInside c.args.window.now) (buckets c) (place c) (new c) (new_inside c (subst (IsInside c.args.window.now) (sym (is c)) (cut c (place c) (old c) (within c)))) (cut c)

pub returns-clause-counts : goal.returns-clause-counts
returns-clause-counts c _ t key =
    let counts = subst (λ found. IfSome found (λ (_ : ℕ). (t : ℕ) (key : List Value) → counted (column c) t key (buckets c) ≡ counted (column c) t key c.args.buckets.now.list.items)) c.in-Some-2.is c.in_ok-place.ensures.counts in
    let both : IsOverlap c.args.period.now c.args.window.now c.in-Some.shared = c.in-Some.ensures.value in
    row_adds (column c) t key (buckets c) (place c) (old c) (new c) (value_at (column c) c.args.row) c.in-Some.shared (within c) (is c) refl (of c) c.in_ok-add.ensures.starts c.in_ok-add.ensures.ends
    ∙ ap (λ n. n +ℤ cond (holds c.in-Some.shared t) (cond (same_row (value_at (column c) c.args.row ∷ []) key) (pos 1) (pos 0)) (pos 0)) (counts t key)
    ∙ ap (λ h. counted (column c) t key c.args.buckets.now.list.items +ℤ cond h (cond (same_row (value_at (column c) c.args.row ∷ []) key) (pos 1) (pos 0)) (pos 0)) (holds-overlap c.args.period.now c.args.window.now c.in-Some.shared both t)
