-- Selection as a sum over fragments.
use Rattle.std.specs.Prelude.{All, ◌≡◌, ◌≤◌, ℕ, Bool, true, false, ◌&&◌, List, [], ◌∷◌, Option, map, max, min, sum_by, refl}
use Rattle.std.specs.Ordering.{eq_by_cmp}
use Rattle.std.proofs.Common.{cond, sym, ap, ◌∙◌, arith}
use Rattle.std.proofs.lemmas.List.Elements.{All-head, All-tail}
use Rattle.std.proofs.lemmas.List.Sums.{sum_by-cons}
use Rattle.tq_base.specs.declared.value.Value.{Value}
use Rattle.tq_base.specs.declared.period.Period.{Period}
use Rattle.tq_base.specs.declared.fragment.Fragment.{Fragment}
use Rattle.tq_base.specs.ValueOrder.{values_cmp}
use Rattle.tq_base.specs.Periods.{holds, IsOverlap, Overlap}
use Rattle.tq_base.specs.Fragments.{at, copies, occurrences}
use Rattle.tq_base.specs.Copies.{copies-sum_by, tally}
use Rattle.tq_condition.specs.declared.condition.Test.{Test}
use Rattle.tq_condition.specs.Ordinary.{admits, selection}
use Rattle.tq_ops.proofs.Counting.{one_if, sum_by-cond, sum_by-filter, sum_by-at}
use Rattle.tq_ops.proofs.Cutting.{holds-overlap, holds_apart}

-- 1 if the fragment gives the selection a row with these values at the instant
abbrev pub selected : Period → Option Test → ℕ → List Value → Fragment → ℕ
selected window test t v f = cond (holds window t) (cond (holds f.period t) (cond (admits test f.values) (one_if (eq_by_cmp values_cmp f.values v)) 0) 0) 0

pub selected-sum_by : (window : Period) (test : Option Test) (rows : List Fragment) (t : ℕ) (v : List Value) → sum_by (selected window test t v) rows ≡ cond (holds window t) (occurrences (selection test (at rows t)) v) 0
selected-sum_by window test rows t v =
    sum_by-cond (holds window t) (λ f. cond (holds f.period t) (cond (admits test f.values) (one_if (eq_by_cmp values_cmp f.values v)) 0) 0) rows
    ∙ ap (λ n. cond (holds window t) n 0)
    (sym (sum_by-filter (admits test) (λ u. one_if (eq_by_cmp values_cmp u v)) (at rows t)
    ∙ sum_by-at (λ u. cond (admits test u) (one_if (eq_by_cmp values_cmp u v)) 0) rows t))

-- a row that overlaps the window and passes
pub selects : (window : Period) (test : Option Test) (f : Fragment) (both : Period) (u : List Value) → IsOverlap f.period window both → u ≡ f.values → admits test f.values ≡ true → (t : ℕ) (v : List Value) → tally v t (record { values = u; period = both }) ≡ selected window test t v f
selects window test f both u is same passes t v =
    ap (λ b. cond b (one_if (eq_by_cmp values_cmp u v)) 0) (holds-overlap f.period window both is t)
    ∙ ap (λ w. cond (holds f.period t && holds window t) (one_if (eq_by_cmp values_cmp w v)) 0) same
    ∙ cases (holds f.period t) (holds window t)
    ∙ ap (λ b. cond (holds window t) (cond (holds f.period t) (cond b (one_if (eq_by_cmp values_cmp f.values v)) 0) 0) 0) (sym passes)
  where
    cases : (a b : Bool) → cond (a && b) (one_if (eq_by_cmp values_cmp f.values v)) 0 ≡ cond b (cond a (cond true (one_if (eq_by_cmp values_cmp f.values v)) 0) 0) 0
    cases true true = refl
    cases true false = refl
    cases false true = refl
    cases false false = refl

-- a row that does not pass
pub fails : (window : Period) (test : Option Test) (f : Fragment) → admits test f.values ≡ false → (t : ℕ) (v : List Value) → selected window test t v f ≡ 0
fails window test f no' t v =
    ap (λ b. cond (holds window t) (cond (holds f.period t) (cond b (one_if (eq_by_cmp values_cmp f.values v)) 0) 0) 0) no'
    ∙ cases (holds window t) (holds f.period t)
  where
    cases : (a b : Bool) → let none : ℕ = 0 in cond a (cond b none none) none ≡ none
    cases true true = refl
    cases true false = refl
    cases false true = refl
    cases false false = refl

-- a row that does not overlap the window
pub lies_apart : (window : Period) (test : Option Test) (f : Fragment) → (Overlap f.period window → ⊥) → (t : ℕ) (v : List Value) → selected window test t v f ≡ 0
lies_apart window test f apart t v = cases (holds f.period t) (holds window t) (holds_apart f.period window apart t)
  where
    cases : (a b : Bool) → (a && b) ≡ false → cond b (cond a (cond (admits test f.values) (one_if (eq_by_cmp values_cmp f.values v)) 0) 0) 0 ≡ 0
    cases true true is = cc
    cases true false is = refl
    cases false true is = refl
    cases false false is = refl

-- a row that lies in the window and passes is cut to itself
kept_whole : (window : Period) (test : Option Test) (f : Fragment) → (window.start ≤ f.period.start) × (f.period.end ≤ window.end) → admits test f.values ≡ true → (t : ℕ) (v : List Value) → tally v t f ≡ selected window test t v f
kept_whole window test f within passes t v =
    let start : f.period.start ≡ max f.period.start window.start = omega (arith, within.0) in
    let end : f.period.end ≡ min f.period.end window.end = omega (arith, within.1) in
    selects window test f f.period f.values (start, end) refl passes t v

sums_whole : (window : Period) (test : Option Test) (rows : List Fragment) → All (λ (p : Period). (window.start ≤ p.start) × (p.end ≤ window.end)) (map (λ (f : Fragment). f.period) rows) → All (λ (f : Fragment). admits test f.values ≡ true) rows
    → (t : ℕ) (v : List Value) → sum_by (tally v t) rows ≡ sum_by (selected window test t v) rows
sums_whole window test [] within passes t v = refl
sums_whole window test (f ∷ rows) within passes t v =
    let here = All-head (λ (p : Period). (window.start ≤ p.start) × (p.end ≤ window.end)) f.period (map (λ (f : Fragment). f.period) rows) within in
    let behind = All-tail (λ (p : Period). (window.start ≤ p.start) × (p.end ≤ window.end)) f.period (map (λ (f : Fragment). f.period) rows) within in
    let pass = All-head (λ (f : Fragment). admits test f.values ≡ true) f rows passes in
    let pass_behind = All-tail (λ (f : Fragment). admits test f.values ≡ true) f rows passes in
    omega (arith, sum_by-cons (tally v t) f rows, sum_by-cons (selected window test t v) f rows, kept_whole window test f here pass t v, sums_whole window test rows behind pass_behind t v)

-- rows that all lie in the window and pass are their own selection
pub counts_whole : (window : Period) (test : Option Test) (rows : List Fragment) → All (λ (p : Period). (window.start ≤ p.start) × (p.end ≤ window.end)) (map (λ (f : Fragment). f.period) rows) → All (λ (f : Fragment). admits test f.values ≡ true) rows
    → (t : ℕ) (v : List Value) → copies rows v t ≡ cond (holds window t) (occurrences (selection test (at rows t)) v) 0
counts_whole window test rows within passes t v = copies-sum_by rows v t ∙ sums_whole window test rows within passes t v ∙ selected-sum_by window test rows t v
