-- Periods cut to a window.
use Rattle.std.specs.Prelude.{◌≡◌, ℕ, ◌<◌, ◌≤◌, ◌&&◌, min, max, nat_le, nat_lt, List, length, map}
use Rattle.std.proofs.Common.{ap, ◌∙◌, arith, get_or}
use Rattle.std.proofs.lemmas.List.{get_or-map}
use Rattle.std.proofs.lemmas.Bool.Decides.{nat_tests}
use Rattle.tq_base.specs.declared.period.Period.{Period}
use Rattle.tq_base.specs.declared.fragment.Fragment.{Fragment}
use Rattle.tq_base.specs.Periods.{holds, IsOverlap}

holds_both : (a b c d t : ℕ) → (nat_le (max a c) t && nat_lt t (min b d)) ≡ ((nat_le a t && nat_lt t b) && (nat_le c t && nat_lt t d))
holds_both a b c d t = grind (arith, nat_tests)

pub holds-overlap : (p q both : Period) → IsOverlap p q both → (t : ℕ) → holds both t ≡ (holds p t && holds q t)
holds-overlap p q both is t = ap (λ s. nat_le s t && nat_lt t both.end) is.0 ∙ ap (λ e. nat_le (max p.start q.start) t && nat_lt t e) is.1 ∙ holds_both p.start p.end q.start q.end t

-- the overlap is within the second period
pub overlap_within : (p q both : Period) → IsOverlap p q both → (q.start ≤ both.start) × (both.start ≤ q.end) × (q.start ≤ both.end) × (both.end ≤ q.end)
overlap_within p q both is =
    let ordered : both.start < both.end = both.ordered in
    let before : q.start < q.end = q.ordered in
    (omega (arith, is.0), omega (arith, is.0, is.1), omega (arith, is.0, is.1), omega (arith, is.1))

-- an item of the list of periods is the period of the row there
pub period_at : (rows : List Fragment) (periods : List Period) (i : ℕ) (period : Period) → periods ≡ map (λ (row : Fragment). row.period) rows → i < length rows → period ≡ get_or periods i period
    → (d : Fragment) → period ≡ (get_or rows i d).period
period_at rows periods i period are less is d = is ∙ ap (λ l. get_or l i period) are ∙ get_or-map (λ (row : Fragment). row.period) rows i d period less
