use Rattle.std.proofs.Common.{◌≡◌, ◌<◌, ◌≤◌, ◌+ℤ◌, ℕ, inl, Bool, true, false, cond, List, [], ◌∷◌, pos, length, refl, sym, subst, ap, ◌∙◌, arith}
use Rattle.std.specs.Prelude.{All}
use Rattle.std.proofs.lemmas.Int.{ints}
use Rattle.std.proofs.lemmas.List.{take_all}
use Rattle.std.proofs.lemmas.List.Elements.{All-nil}
use Rattle.tq_base.specs.declared.value.Value.{Value}
use Rattle.tq_agg.specs.declared.buckets.Bucket.{Bucket}
use Rattle.tq_agg.specs.declared.buckets.Tally.{Tally}
use Rattle.tq_agg.specs.Buckets.{bucket_count, counted_at, counted_in, value_of, AreCut, AreRanked}
use Rattle.tq_agg.specs.Endpoints.{count_upto, AreInside}
use Rattle.tq_agg.specs.Grouping.{same_row}
use Rattle.tq_agg.proofs.Adding.{added-step}
use Rattle.tq_agg.proofs.partials.rows_of_rank.Goals as goal

-- a bucket without bounds counts nothing
nothing : (column : List Value) (t : ℕ) (key : List Value) (b : Bucket) → b.endpoints.starts.items ≡ [] → b.endpoints.ends.items ≡ [] → bucket_count column t key b ≡ pos 0
nothing column t key b no_starts no_ends =
    ap (λ n. cond (same_row (value_of column b ∷ []) key) n (pos 0)) (ap (λ l. count_upto l b.endpoints.ends.items t) no_starts ∙ ap (λ l. count_upto [] l t) no_ends ∙ omega (arith, ints))
    ∙ either (same_row (value_of column b ∷ []) key)
  where
    either : (s : Bool) → cond s (pos 0) (pos 0) ≡ pos 0
    either true = refl
    either false = refl

pub tallies-init : goal.tallies-init
tallies-init c =
    let empty : Bucket = record { row = 0; endpoints = c.none.result; changes = c.none-2.result } in
    record {
      inside = λ window all. (
        subst (AreInside window) (sym c.none.ensures.starts) (All-nil (λ b. (window.start ≤ b) × (b ≤ window.end))),
        subst (AreInside window) (sym c.none.ensures.ends) (All-nil (λ b. (window.start ≤ b) × (b ≤ window.end))),
      );
      found = λ column are. inl (c.none.ensures.starts, c.none.ensures.ends);
      counts = λ column are t key. nothing column t key empty c.none.ensures.starts c.none.ensures.ends;
    }

pub tallies-preserved : goal.tallies-preserved
tallies-preserved c =
    let tallies = c.args.tallies.now in
    let i = c.tallies.buckets-index in
    let item = c.buckets-item.result in
    let lt : i < length tallies = c.tallies-test.true in
    let ranked : (column : List Value) → All (λ (b : Tally). AreRanked column b.ranks.items b.list.items) tallies → AreRanked column item.ranks.items item.list.items =
    λ column are. subst (λ (b : Tally). AreRanked column b.ranks.items b.list.items) (sym c.buckets-item.is) (are i item lt) in
    record {
      inside = λ window all.
          c.in_ok-add_rank.ensures.inside window (subst (λ (b : Tally). AreCut window b.list.items) (sym c.buckets-item.is) (all i item lt)) (c.tallies.invariant.inside window all);
      found = λ column are. c.in_ok-add_rank.ensures.found column (ranked column are) (c.tallies.invariant.found column are);
      counts = λ column are t key.
          c.in_ok-add_rank.ensures.counts column (ranked column are) (c.tallies.invariant.found column are) t key
          ∙ ap (λ n. n +ℤ counted_at column c.args.prefix t key item.list.items) (c.tallies.invariant.counts column are t key)
          ∙ sym (added-step (λ (b : Tally). counted_at column c.args.prefix t key b.list.items) tallies i item lt c.buckets-item.is);
    }

pub returns-clause-counts : goal.returns-clause-counts
returns-clause-counts c column are t key =
    c.tallies.invariant.counts column are t key ∙ ap (counted_in column c.args.prefix t key) (take_all c.tallies.buckets-index c.args.tallies.now c.tallies-test.false)
