-- The sets of index keys after one set has changed.
use Rattle.std.proofs.Common.{◌≡◌, ◌≢◌, ℕ, ◌==◌, Bool, true, false, List, Some, length, slice_get, slice_set, refl, sym, ap, ◌∙◌}
use Rattle.std.specs.BTreeSet.{BTreeSet, contains}
use Rattle.std.specs.Option.{option_map_or}
use Rattle.std.specs.Ordering.{eq_by_cmp, nat_cmp}
use Rattle.std.proofs.lemmas.Bool.{eqb-true}
use Rattle.std.proofs.lemmas.Option.{slice_get_within}
use Rattle.tq_snapshot.specs.OpenRows.{set_index}
use Rattle.tq_store.proofs.IndexLemmas.{get_set_other, get_set_same, set_length}
use Rattle.tq_store.proofs.LifeLemmas.{eqb-same}
use Rattle.tq_snapshot.proofs.OpenRowsLemmas.{number_other}

-- whether the key is in its set
abbrev pub has_in : List (BTreeSet ℕ) → ℕ → Bool
has_in sets k = option_map_or (λ set. contains nat_cmp set k) (slice_get sets (set_index (length sets) k)) false

-- if the set of a key changes only at this key, so do the sets together
module _ (sets : List (BTreeSet ℕ)) (key : ℕ) (old new : BTreeSet ℕ) (f : Bool → Bool → Bool)
    (stands : slice_get sets (set_index (length sets) key) ≡ Some old)
    (changes : (k : ℕ) → contains nat_cmp new k ≡ f (contains nat_cmp old k) (eq_by_cmp nat_cmp key k))
    (leaves : (b : Bool) → f b false ≡ b)
  where
    abbrev place : ℕ
    place = set_index (length sets) key

    abbrev after : List (BTreeSet ℕ)
    after = slice_set sets place new

    pub changed_in : (k : ℕ) → has_in (slice_set sets (set_index (length sets) key) new) k ≡ f (has_in sets k) (eq_by_cmp nat_cmp key k)
    changed_in k = ap (λ n. option_map_or (λ set. contains nat_cmp set k) (slice_get after (set_index n k)) false) (set_length sets place new) ∙ by (set_index (length sets) k == place) refl
      where
        by : (b : Bool) → (set_index (length sets) k == place) ≡ b
            → option_map_or (λ set. contains nat_cmp set k) (slice_get after (set_index (length sets) k)) false ≡ f (has_in sets k) (eq_by_cmp nat_cmp key k)
        by true is =
            let at : set_index (length sets) k ≡ place = eqb-true (set_index (length sets) k) place is in
            ap (λ i. option_map_or (λ set. contains nat_cmp set k) (slice_get after i) false) at
            ∙ ap (λ o. option_map_or (λ set. contains nat_cmp set k) o false) (get_set_same sets place new (slice_get_within sets place old stands))
            ∙ changes k
            ∙ sym (ap (λ o. f (option_map_or (λ set. contains nat_cmp set k) o false) (eq_by_cmp nat_cmp key k)) (ap (slice_get sets) at ∙ stands))
        by false is =
            let away : set_index (length sets) k ≢ place = λ same. let wrong : true ≡ false = sym (eqb-same (set_index (length sets) k)) ∙ ap (λ n. set_index (length sets) k == n) same ∙ is in cc in
            let other : key ≢ k = λ same. away (ap (set_index (length sets)) (sym same)) in
            ap (λ o. option_map_or (λ set. contains nat_cmp set k) o false) (get_set_other sets place (set_index (length sets) k) new away)
            ∙ sym (leaves (has_in sets k))
            ∙ sym (ap (f (has_in sets k)) (number_other key k other))
