-- Rows with small numbers in the summed columns have small weights.
use Rattle.std.proofs.Common.{ℕ, pos, FitsSigned, List, ◌∷◌, map, arith}
use Rattle.std.specs.Prelude.{All, IsPermutation}
use Rattle.std.specs.Int.{w64}
use Rattle.std.proofs.lemmas.Int.{ints}
use Rattle.std.proofs.lemmas.List.Elements.{All-cons, All-filter, All-map}
use Rattle.std.proofs.lemmas.List.Sorted.{All-permutation}
use Rattle.tq_base.specs.declared.period.Period.{Period}
use Rattle.tq_base.specs.declared.fragment.Fragment.{Fragment}
use Rattle.tq_base.specs.Keys.{is_overlap, overlapping}
use Rattle.tq_agg.specs.declared.summands.Summand.TheVariants.{Column, One}
use Rattle.tq_agg.specs.Grouping.{AreSummable}
use Rattle.tq_agg.specs.Totals.{HaveSmall}

abbrev AreFit : List ℕ → List Fragment → Type 0
AreFit sums rows = All (λ (r : Fragment). AreSummable sums r.values) rows

-- the rows that overlap the window are summable in any order
pub sorted_fit : (window : Period) (sums : List ℕ) (rows sorted : List Fragment) → AreFit sums rows → IsPermutation (overlapping window rows) sorted → AreFit sums sorted
sorted_fit window sums rows sorted fit same =
    All-permutation (λ (r : Fragment). AreSummable sums r.values) (overlapping window rows) sorted same
    (All-filter (λ f. is_overlap f.period window) (λ (f : Fragment). AreSummable sums f.values) rows fit)

-- each summand of summable rows is small
pub have_small : (sums : List ℕ) (rows : List Fragment) → AreFit sums rows → All (λ s. HaveSmall s rows) (One ∷ map Column sums)
have_small sums rows fit =
    All-cons (λ s. HaveSmall s rows) One (map Column sums) (λ k d lt. let one : FitsSigned w64 (pos 1) = omega (arith, ints) in one)
    (All-map (λ s. HaveSmall s rows) Column sums (λ i e below k d lt. fit k d lt i e below))
