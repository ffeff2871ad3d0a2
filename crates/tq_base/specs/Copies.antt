-- Laws of `copies`: the effect of appending, of reordering, and of changing one group.
use Rattle.std.specs.Prelude.{◌≡◌, ℕ, ◌+◌, Bool, true, false, List, [], ◌∷◌, ◌++◌, map, filter, count_by, sum_by, IsPermutation, refl}
use Rattle.std.proofs.Common.{cond, sym, ap, ◌∙◌, arith}
use Rattle.std.specs.Ordering.{eq_by_cmp}
use Rattle.std.proofs.lemmas.List.Sums.{sum_by-cons, sum_by-append}
use Rattle.std.proofs.lemmas.List.Sorted.{sum_by-IsPermutation}
use Rattle.tq_base.specs.declared.value.Value.{Value}
use Rattle.tq_base.specs.declared.fragment.Fragment.{Fragment}
use Rattle.tq_base.specs.ValueOrder.{values_cmp}
use Rattle.tq_base.specs.Periods.{holds}
use Rattle.tq_base.specs.Fragments.{copies}

-- 1 where the fragment has the values and is valid at the instant, else 0
abbrev pub tally : List Value → ℕ → Fragment → ℕ
tally v t f = cond (holds f.period t) (cond (eq_by_cmp values_cmp f.values v) 1 0) 0

-- the cases of `copies-sum_by`: the fragment is valid at the instant, or not
copies-cons : (b : Bool) (u v : List Value) (rest : List (List Value)) (n : ℕ) → count_by (λ w. eq_by_cmp values_cmp w v) rest ≡ n → count_by (λ w. eq_by_cmp values_cmp w v) (cond b (u ∷ rest) rest) ≡ cond b (cond (eq_by_cmp values_cmp u v) 1 0) 0 + n
copies-cons true u v rest n e =
    sum_by-cons (λ w. cond (eq_by_cmp values_cmp w v) 1 0) u rest ∙ ap (λ m. cond (eq_by_cmp values_cmp u v) 1 0 + m) e
copies-cons false u v rest n e = e ∙ omega arith

map-cond : (b : Bool) (f : Fragment) (fs : List Fragment) → map (λ g. g.values) (cond b (f ∷ fs) fs) ≡ cond b (f.values ∷ map (λ g. g.values) fs) (map (λ g. g.values) fs)
map-cond true f fs = refl
map-cond false f fs = refl

pub copies-sum_by : (fragments : List Fragment) (v : List Value) (t : ℕ) → copies fragments v t ≡ sum_by (tally v t) fragments
copies-sum_by [] v t = refl
copies-sum_by (f ∷ fragments) v t =
    ap (count_by (λ w. eq_by_cmp values_cmp w v)) (map-cond (holds f.period t) f (filter (λ g. holds g.period t) fragments))
    ∙ copies-cons (holds f.period t) f.values v _ _ (copies-sum_by fragments v t)
    ∙ sym (sum_by-cons (tally v t) f fragments)

pub copies-append : (fs gs : List Fragment) (v : List Value) (t : ℕ) → copies (fs ++ gs) v t ≡ copies fs v t + copies gs v t
copies-append fs gs v t =
    omega (arith, copies-sum_by (fs ++ gs) v t, copies-sum_by fs v t, copies-sum_by gs v t, sum_by-append (tally v t) fs gs)

pub copies-IsPermutation : (fs gs : List Fragment) (v : List Value) (t : ℕ) → IsPermutation fs gs → copies gs v t ≡ copies fs v t
copies-IsPermutation fs gs v t same =
    omega (arith, copies-sum_by fs v t, copies-sum_by gs v t, sum_by-IsPermutation (tally v t) fs gs same)
