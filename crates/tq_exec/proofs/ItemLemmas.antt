-- Rows of which the values at some places are shown.
use Rattle.std.proofs.Common.{◌≡◌, ℕ, suc, ◌+◌, Bool, true, false, cond, List, [], ◌∷◌, length, map, refl, ap, ◌∙◌}
use Rattle.std.specs.Prelude.{filter}
use Rattle.tq_base.specs.declared.fragment.Fragment.{Fragment}
use Rattle.tq_base.specs.declared.period.Period.{Period}
use Rattle.tq_base.specs.Fragments.{at, occurrences}
use Rattle.tq_base.specs.Periods.{holds}
use Rattle.tq_base.specs.Relations.{projected}
use Rattle.tq_condition.specs.Ordinary.{HasInside, IsEmptyOutside, projection}
use Rattle.tq_agg.specs.Grouping.{Row}
use Rattle.tq_plan.specs.declared.plans.Output.{Output}
use Rattle.tq_plan.specs.declared.plans.Output.TheVariants.{Column, Count, Sum}
use Rattle.tq_exec.specs.OutputPlaces.{item_places}
use Rattle.tq_exec.proofs.BagLemmas.{same_mapped}

pub at-projected : (places : List ℕ) (rows : List Fragment) (t : ℕ) → at (map (projected places) rows) t ≡ map (projection places) (at rows t)
at-projected places [] t = refl
at-projected places (f ∷ rows) t = by_time (holds f.period t) (at-projected places rows t)
  where
    by_time : (b : Bool) → at (map (projected places) rows) t ≡ map (projection places) (at rows t)
        → map (λ (g : Fragment). g.values) (cond b (projected places f ∷ filter (λ (g : Fragment). holds g.period t) (map (projected places) rows)) (filter (λ (g : Fragment). holds g.period t) (map (projected places) rows)))
        ≡ map (projection places) (map (λ (g : Fragment). g.values) (cond b (f ∷ filter (λ (g : Fragment). holds g.period t) rows) (filter (λ (g : Fragment). holds g.period t) rows)))
    by_time true rest = ap (λ l. projection places f.values ∷ l) rest
    by_time false rest = rest

-- as often as the count of the rows says, the values at the places of each are shown
pub shown_inside : (places : List ℕ) (window : Period) (rows : ℕ → List Row) (passed out : List Fragment)
    → HasInside window passed (λ t v. occurrences (rows t) v) → out ≡ map (projected places) passed
    → HasInside window out (λ t v. occurrences (map (projection places) (rows t)) v)
shown_inside places window rows passed out counted is t v inside =
    ap (λ l. occurrences (at l t) v) is
    ∙ ap (λ l. occurrences l v) (at-projected places passed t)
    ∙ same_mapped (projection places) (at passed t) (rows t) (λ u. counted t u inside) v

pub shown_outside : (places : List ℕ) (window : Period) (passed out : List Fragment) → IsEmptyOutside window passed → out ≡ map (projected places) passed → IsEmptyOutside window out
shown_outside places window passed out none is t outside =
    ap (λ l. at l t) is ∙ at-projected places passed t ∙ ap (map (projection places)) (none t outside)

-- each item stands at a place
pub length-item_places : (group : List ℕ) (next : ℕ) (outputs : List Output) → length (item_places group next outputs) ≡ length outputs
length-item_places group next [] = refl
length-item_places group next (Column place ∷ outputs) = ap (λ n. suc n) (length-item_places group next outputs)
length-item_places group next (Count ∷ outputs) = ap (λ n. suc n) (length-item_places group next outputs)
length-item_places group next (Sum place ∷ outputs) = ap (λ n. suc n) (length-item_places group (next + 1) outputs)
