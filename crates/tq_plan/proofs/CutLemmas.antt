-- Periods that follow one another, and bounds that lie inside.
use Rattle.std.proofs.Common.{◌≡◌, ◌++◌, ◌<◌, ◌≤◌, ℕ, zero, suc, List, [], ◌∷◌, refl, sym, subst, ◌∙◌, arith}
use Rattle.tq_base.specs.declared.period.Period.{Period}
use Rattle.tq_plan.specs.Cuts.{Follow}

-- one more period that begins where the others end
pub one_more : (start middle : ℕ) (p : Period) (ps : List Period) → Follow start middle ps → p.start ≡ middle → Follow start p.end (ps ++ p ∷ [])
one_more start middle p [] f e = (e ∙ sym f, refl)
one_more start middle p (q ∷ qs) f e = (f.0, one_more q.end middle p qs f.1 e)

-- the same list under other names
pub one_more_is : (start middle end : ℕ) (p : Period) (ps qs : List Period) → Follow start middle ps → p.start ≡ middle → p.end ≡ end → qs ≡ ps ++ p ∷ [] → Follow start end qs
one_more_is start middle end p ps qs f begins ends is =
    subst (Follow start end) (sym is) (subst (λ e. Follow start e (ps ++ p ∷ [])) ends (one_more start middle p ps f begins))

-- what holds for a later piece, and for the first one
pub of_each : (piece n : ℕ) → 1 ≤ piece → (2 ≤ piece → 0 < n) → (piece ≡ 1 → ⊥) → 0 < n
of_each zero n one later first = absurd (omega (arith, one))
of_each (suc zero) n one later first = absurd (first refl)
of_each (suc (suc k)) n one later first = later (omega arith)
