-- Figures of one row more, and of one source more.
use Rattle.std.proofs.Common.{◌≡◌, ℕ, ◌+◌, ◌<◌, Bool, true, false, cond, List, [], ◌∷◌, ◌++◌, count_by, get_or, length, take, refl, sym, subst, arith}
use Rattle.std.proofs.lemmas.List.{take_more}
use Rattle.std.proofs.lemmas.List.Sums.{count_by_more_no, count_by_more_yes}
use Rattle.tq_base.specs.declared.fragment.Fragment.{Fragment}
use Rattle.tq_base.specs.declared.period.Period.{Period}
use Rattle.tq_plan.specs.declared.plans.QueryPlan.{QueryPlan}
use Rattle.tq_plan.specs.declared.plans.QuerySource.{QuerySource}
use Rattle.tq_profile.specs.Figures.{AreSourceFigures, IsSourceFigures}
use Rattle.tq_profile.specs.declared.figures.SourceFigures.{SourceFigures}

-- one item more is counted where it passes
pub count_more : {X : Type 0} (p : X → Bool) (xs : List X) (i : ℕ) (d : X) → i < length xs
    → count_by p (take (i + 1) xs) ≡ count_by p (take i xs) + cond (p (get_or xs i d)) 1 0
count_more p xs i d less = by (p (get_or xs i d)) refl
  where
    by : (b : Bool) → p (get_or xs i d) ≡ b → count_by p (take (i + 1) xs) ≡ count_by p (take i xs) + cond b 1 0
    by true e = count_by_more_yes p xs i d less e
    by false e = omega (arith, count_by_more_no p xs i d less e)

one_behind : (window : Period) (query : QueryPlan) (tables : List (List Fragment)) (sources : List QuerySource) (figures : List SourceFigures) (source : QuerySource) (one : SourceFigures)
    → AreSourceFigures window query tables sources figures → IsSourceFigures window query tables source one → AreSourceFigures window query tables (sources ++ source ∷ []) (figures ++ one ∷ [])
one_behind window query tables [] [] source one are is = (is, tt)
one_behind window query tables [] (f ∷ figures) source one are is = absurd are
one_behind window query tables (s ∷ sources) [] source one are is = absurd are
one_behind window query tables (s ∷ sources) (f ∷ figures) source one are is = (are.0, one_behind window query tables sources figures source one are.1 is)

-- the figures of one source more
pub one_more_source : (window : Period) (query : QueryPlan) (tables : List (List Fragment)) (sources : List QuerySource) (n : ℕ) (figures : List SourceFigures) (one : SourceFigures) (d : QuerySource) → n < length sources
    → AreSourceFigures window query tables (take n sources) figures → IsSourceFigures window query tables (get_or sources n d) one
    → AreSourceFigures window query tables (take (n + 1) sources) (figures ++ one ∷ [])
one_more_source window query tables sources n figures one d less are is =
    subst (λ l. AreSourceFigures window query tables l (figures ++ one ∷ [])) (sym (take_more sources n d less))
    (one_behind window query tables (take n sources) figures (get_or sources n d) one are is)

-- a source, where there is none
abbrev pub no_source : QuerySource
no_source = record { table = 0; first = 0; width = 0; numbered = false }
