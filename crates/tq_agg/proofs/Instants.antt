-- What counts of copies at each instant say of the clauses.
use Rattle.std.specs.Prelude.{◌≡◌, ℕ, Bool, true, false, List, [], ◌∷◌, IsTrue, refl}
use Rattle.std.specs.Ordering.{eq_by_cmp}
use Rattle.std.proofs.Common.{cond, ap, ◌∙◌, arith}
use Rattle.std.proofs.lemmas.List.Sums.{sum_by-cons}
use Rattle.tq_base.specs.declared.value.Value.{Value}
use Rattle.tq_base.specs.declared.period.Period.{Period}
use Rattle.tq_base.specs.declared.fragment.Fragment.{Fragment}
use Rattle.tq_base.specs.ValueOrder.{values_cmp, eq_from_same}
use Rattle.tq_base.specs.Periods.{holds}
use Rattle.tq_base.specs.Fragments.{at, copies, occurrences}
use Rattle.tq_condition.specs.Ordinary.{HasInside, IsEmptyOutside}

-- 1 if the test holds, otherwise 0
abbrev pub one_if : Bool → ℕ
one_if b = cond b 1 0

-- if no row occurs there, there is no row
none_there : (rows : List (List Value)) → ((v : List Value) → occurrences rows v ≡ 0) → rows ≡ []
none_there [] none = refl
none_there (u ∷ rows) none =
    let itself = ap one_if (eq_from_same u u refl) in
    let here = sum_by-cons (λ w. one_if (eq_by_cmp values_cmp w u)) u rows in
    absurd (omega (arith, none u, here, itself))

module _ (window : Period) (out : List Fragment) (count : ℕ → List Value → ℕ) (counted : (t : ℕ) (v : List Value) → copies out v t ≡ cond (holds window t) (count t v) 0) where
  pub inside_from_counts : HasInside window out count
  inside_from_counts t v inside = counted t v ∙ cases (holds window t) inside
    where
      cases : (b : Bool) → IsTrue b → cond b (count t v) 0 ≡ count t v
      cases true inside = refl
      cases false inside = cc

  pub outside_from_counts : IsEmptyOutside window out
  outside_from_counts t outside = none_there (at out t) (λ v. counted t v ∙ ap (λ b. cond b (count t v) 0) outside)
