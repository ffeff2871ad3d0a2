-- Changes in the order of their bounds, and their totals up to an instant.
use Rattle.std.proofs.Common.{◌≡◌, ℕ, ◌+◌, ◌-◌, ◌^◌, ◌<◌, ◌≤◌, ℤ, pos, ◌+ℤ◌, ◌-ℤ◌, Bool, true, false, cond, nat_le, FitsSigned, List, [], ◌∷◌, length, take, drop, get_or, refl, sym, ap, arith}
use Rattle.std.specs.Prelude.{IsSorted, IsSortedByKey}
use Rattle.std.specs.Int.{w128}
use Rattle.std.specs.Ordering.{nat_cmp}
use Rattle.std.proofs.lemmas.Int.{ints}
use Rattle.std.proofs.lemmas.List.{get_or-map, length-map}
use Rattle.tq_base.specs.Sweep.{upto, upto-cons, Rises}
use Rattle.tq_agg.specs.declared.changes.Change.{Change}
use Rattle.tq_agg.specs.Changes.{bounds_of, changed_by, one, own, totals_after, totals_changed, weights, HaveSmallWeights}
use Rattle.tq_agg.proofs.Moving.{upto_added}
use Rattle.tq_agg.proofs.Totals.{difference_fits, difference_to, part_fits}

pub no_change : Change
no_change = record { at = 0; weight = pos 0 }

-- changes in the order of their bounds
pub bounds_sorted : (changes : List Change) → IsSortedByKey (λ (c : Change). c.at) nat_cmp changes → IsSorted nat_cmp (bounds_of changes)
bounds_sorted changes sorted k d low lt =
    let inside : k + 1 < length changes = omega (arith, lt, length-map changes (λ (c : Change). c.at)) in
    let is = sorted k no_change low inside in
    rw (get_or-map (λ (c : Change). c.at) changes (k + 1) no_change d inside, get_or-map (λ (c : Change). c.at) changes k no_change d (omega (arith, inside))) is

-- the number of changes that have come, and their sum
pub counted_by : (changes : List Change) (t : ℕ) → changed_by one changes t ≡ pos (upto (bounds_of changes) t)
counted_by [] t = refl
counted_by (c ∷ changes) t =
    let rest = counted_by changes t in
    let sum = upto-cons c.at (bounds_of changes) t in
    omega (arith, ints, rest, sum, both (nat_le c.at t))
  where
    both : (b : Bool) → cond b (pos 1) (pos 0) ≡ pos (cond b 1 0)
    both true = refl
    both false = refl

pub weighed_by : (changes : List Change) (t : ℕ) → Rises (bounds_of changes) → changed_by own changes t ≡ weights (take (upto (bounds_of changes) t) changes)
weighed_by changes t rise = sym (upto_added (λ (c : Change). c.at) (λ (c : Change). c.weight) changes t rise)

-- after those that have come by the instant, the totals are those of the instant
pub totals_at : (starts ends : List Change) (t : ℕ) → Rises (bounds_of starts) → Rises (bounds_of ends)
    → totals_after starts ends (upto (bounds_of starts) t) (upto (bounds_of ends) t) ≡ totals_changed starts ends t
totals_at starts ends t rise ends_rise =
    (λ i. (sym (counted_by starts t) i -ℤ sym (counted_by ends t) i) ∷ (sym (weighed_by starts t rise) i -ℤ sym (weighed_by ends t ends_rise) i) ∷ [])

-- ---- at a later place

module _ (starts ends : List Change) (b e b' e' : ℕ) (begun : b ≤ b') (ended : e ≤ e') where
  -- the sum there
  pub sum_to : (current : List ℤ) → current ≡ totals_after starts ends b e
      → weights (take b' starts) -ℤ weights (take e' ends) ≡ get_or current 1 (pos 0) +ℤ (weights (take (b' - b) (drop b starts)) -ℤ weights (take (e' - e) (drop e ends)))
  sum_to current are =
      let before : get_or current 1 (pos 0) ≡ weights (take b starts) -ℤ weights (take e ends) = ap (λ l. get_or l 1 (pos 0)) are in
      omega (arith, ints, before, difference_to (λ (c : Change). c.weight) (λ (c : Change). c.weight) starts ends b e b' e' begun ended)

  module _ (small : HaveSmallWeights starts) (ends_small : HaveSmallWeights ends) (short : length (bounds_of starts) < 2 ^ 63) (ends_short : length (bounds_of ends) < 2 ^ 63) where
    few : length starts < 2 ^ 63
    few = omega (arith, short, length-map starts (λ (c : Change). c.at))

    few_ends : length ends < 2 ^ 63
    few_ends = omega (arith, ends_short, length-map ends (λ (c : Change). c.at))

    pub sum_fits : FitsSigned w128 (weights (take b' starts) -ℤ weights (take e' ends))
    sum_fits = difference_fits (λ (c : Change). c.weight) (λ (c : Change). c.weight) starts ends small ends_small few few_ends b' e'

    -- and the difference
    pub more_fits : FitsSigned w128 (weights (take (b' - b) (drop b starts)) -ℤ weights (take (e' - e) (drop e ends)))
    more_fits = part_fits (λ (c : Change). c.weight) (λ (c : Change). c.weight) starts ends small ends_small few few_ends b (b' - b) e (e' - e)
