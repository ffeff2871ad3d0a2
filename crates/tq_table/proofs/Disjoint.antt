-- Rows with equal values that neither overlap nor meet are their own layers.
use Rattle.std.proofs.Common.{◌≡◌, ⊎_elim, ◌++◌, ℕ, zero, suc, ◌+◌, ◌<◌, ◌≤◌, false, List, get_or, length, map, refl, sym, ap, subst, arith}
use Rattle.std.specs.Prelude.{IsSorted}
use Rattle.std.specs.Cmp.{nat_cmp_is}
use Rattle.std.specs.Ordering.{is_lt, nat_cmp, ordering_then}
use Rattle.std.specs.declared.cmp.Ordering.TheVariants.{Greater}
use Rattle.std.proofs.lemmas.Bool.{cases_eq, cases_lt}
use Rattle.std.proofs.lemmas.List.{get_or-map, length-map}
use Rattle.tq_base.specs.declared.value.Value.{Value}
use Rattle.tq_base.specs.declared.period.Period.{Period}
use Rattle.tq_base.specs.declared.fragment.Fragment.{Fragment}
use Rattle.tq_base.specs.Layers.{TakesIn}
use Rattle.tq_base.specs.Layering.{period_cmp, rows_of, AddsLayers}
use Rattle.tq_table.specs.Disjoint.{AreDisjoint}

module _ (v : List Value) (group : List Fragment) (apart : AreDisjoint group) where
  step : (k : ℕ) (d : Fragment) → suc k < length group → (get_or group k d).period.end < (get_or group (suc k) d).period.start
  step k d below =
      let one_more : k + 1 ≡ suc k = omega arith in
      subst (λ n. (get_or group k d).period.end < (get_or group n d).period.start) one_more (apart k d (omega (arith, below)))

  -- each row ends before all later ones begin
  before : (i j : ℕ) (d : Fragment) → i < j → j < length group → (get_or group i d).period.end < (get_or group j d).period.start
  before i zero d later below = absurd (omega (arith, later))
  before i (suc k) d later below = ⊎_elim next (λ differ. further (before i k d (omega (arith, later, differ)) (omega (arith, below)))) (cases_eq i k)
    where
      next : i ≡ k → (get_or group i d).period.end < (get_or group (suc k) d).period.start
      next is = rw is (step k d below)

      further : (get_or group i d).period.end < (get_or group k d).period.start → (get_or group i d).period.end < (get_or group (suc k) d).period.start
      further first =
          let ordered : (get_or group k d).period.start < (get_or group k d).period.end = (get_or group k d).period.ordered in
          omega (arith, first, ordered, step k d below)

  abbrev periods : List Period
  periods = map (λ (f : Fragment). f.period) group

  as_many : length periods ≡ length group
  as_many = length-map group (λ (f : Fragment). f.period)

  -- a row has the period at its place
  period_at : (i : ℕ) (p : Period) (d : Fragment) → i < length periods → get_or periods i p ≡ (get_or group i d).period
  period_at i p d below = get_or-map (λ (f : Fragment). f.period) group i d p (omega (arith, as_many, below))

  nested : (i : ℕ) (p : Period) → i < length periods → (j : ℕ) (q : Period) → j < length periods → TakesIn (get_or periods i p) (get_or periods j q)
  nested i p low j q high begins meets = absurd (⊎_elim earlier (λ no_earlier. ⊎_elim same (later no_earlier) (cases_eq i j)) (cases_lt i j))
    where
      d : Fragment
      d = record { values = v; period = p }

      one : get_or periods i p ≡ (get_or group i d).period
      one = period_at i p d low

      other : get_or periods j q ≡ (get_or group j d).period
      other = period_at j q d high

      start_after : (get_or group i d).period.start < (get_or group j d).period.start
      start_after = omega (arith, ap (λ (r : Period). r.start) one, ap (λ (r : Period). r.start) other, begins)

      earlier : i < j → ⊥
      earlier lt = omega (arith, before i j d lt (omega (arith, as_many, high)), ap (λ (r : Period). r.end) one, ap (λ (r : Period). r.start) other, meets)

      same : i ≡ j → ⊥
      same is = omega (arith, start_after, ap (λ k. (get_or group k d).period.start) is)

      later : j ≤ i → (i ≡ j → ⊥) → ⊥
      later no_earlier differ =
          let ordered : (get_or group j d).period.start < (get_or group j d).period.end = (get_or group j d).period.ordered in
          omega (arith, start_after, ordered, before j i d (omega (arith, no_earlier, differ)) (omega (arith, as_many, low)))

  in_order : IsSorted period_cmp periods
  in_order k p low high =
      let d : Fragment = record { values = v; period = p } in
      let one = ap (λ (r : Period). r.start) (period_at k p d (omega (arith, high))) in
      let next = ap (λ (r : Period). r.start) (period_at (k + 1) p d high) in
      let ordered : (get_or group k d).period.start < (get_or group k d).period.end = (get_or group k d).period.ordered in
      ascends (get_or periods k p) (get_or periods (k + 1) p) (omega (arith, one, next, ordered, apart k d (omega (arith, as_many, high))))
    where
      ascends : (p q : Period) → p.start < q.start → is_lt (period_cmp q p) ≡ false
      ascends p q before = ap (λ o. is_lt (ordering_then o (nat_cmp q.end p.end))) (sym (nat_cmp_is q.start p.start Greater before))

  -- their periods are added to the table unchanged
  pub adds_apart : (old new : List Fragment) → new ≡ old ++ rows_of v periods → AddsLayers v group old new
  adds_apart old new is = record {
    layering = periods;
    is_layering = record { nested = nested; held_alike = λ t. refl };
    in_order = in_order;
    added = is;
  }
