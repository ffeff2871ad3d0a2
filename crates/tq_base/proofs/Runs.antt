-- Each row of an ordered, coalesced table is a maximal run, at a level of its own.
use Rattle.std.proofs.Common.{◌≡◌, ℕ, zero, suc, ◌+◌, ◌<◌, ◌≤◌, ◌≢◌, ◌-◌, eqb, Bool, true, false, cond, ◌&&◌, ◌||◌, ◌==◌, List, [], ◌∷◌, ◌++◌, length, get_or, sum_by, sym, refl, ap, ◌∙◌, subst, arith, inl, inr, ◌⊎◌, append_assoc}
use Rattle.std.specs.Prelude.{All, AllPairs, Contains, nat_le, nat_lt}
use Rattle.std.specs.List.{AllZip, AllByRecursion, IsDistinct, list_any, zip}
use Rattle.std.proofs.lemmas.Bool.{or_cases, or_parts, and_parts, eqb-true, ne_eqb}
use Rattle.std.proofs.lemmas.Map.Steps.{length-le_from_distinct_below}
use Rattle.std.specs.Ordering.{eq_by_cmp}
use Rattle.std.proofs.lemmas.Bool.{cases_lt}
use Rattle.std.proofs.lemmas.Bool.Decides.{nat_tests}
use Rattle.std.proofs.lemmas.List.Elements.{All-nil, All-cons, All-head, All-tail, All-weaker, All-contains}
use Rattle.std.proofs.lemmas.List.Sums.{sum_by-cons, sum_by-append, sum_by_push}
use Rattle.tq_base.specs.declared.value.Value.{Value}
use Rattle.tq_base.specs.declared.period.Period.{Period}
use Rattle.tq_base.specs.declared.fragment.Fragment.{Fragment}
use Rattle.tq_base.specs.ValueOrder.{values_cmp, eq_from_same, same_from_eq}
use Rattle.tq_base.specs.Periods.{holds}
use Rattle.tq_base.specs.Copies.{tally, copies-sum_by}
use Rattle.tq_base.specs.Layers.{TakesIn, IsLayers, IsRun, RowsAreRuns}
use Rattle.tq_base.proofs.Unique.{tally_one, tally_is, held_from, period_same}

-- 1 if g has the values of f and a larger period that contains f's
abbrev around : Fragment → Fragment → ℕ
around f g = cond (eq_by_cmp values_cmp g.values f.values && (nat_le g.period.start f.period.start && (nat_le f.period.end g.period.end && (nat_lt g.period.start f.period.start || nat_lt f.period.end g.period.end)))) 1 0

-- 1 if g equals f
abbrev equal : Fragment → Fragment → ℕ
equal f g = cond (eq_by_cmp values_cmp g.values f.values && ((g.period.start == f.period.start) && (g.period.end == f.period.end))) 1 0

-- the level of a row after these rows
abbrev level_of : List Fragment → List Fragment → Fragment → ℕ
level_of table front f = 1 + sum_by (around f) table + sum_by (equal f) front

abbrev levels_of : List Fragment → List Fragment → List Fragment → List ℕ
levels_of table front [] = []
levels_of table front (f ∷ back) = level_of table front f ∷ levels_of table (front ++ f ∷ []) back

-- what is at most 1 in total, and needs an instant
around_one : (f g : Fragment) (n : ℕ) → n ≡ around f g → g.values ≡ f.values → g.period.start ≤ f.period.start → f.period.end ≤ g.period.end → (g.period.start < f.period.start) ⊎ (f.period.end < g.period.end) → n ≡ 1
around_one f g n is same start end more =
    let e = eq_from_same g.values f.values same in
    elim more [ inl a ↦ grind (arith, nat_tests) | inr a ↦ grind (arith, nat_tests) ]

-- a row contains f, or equals f, but not both; in both cases it holds each instant of f
around_cases : (f g : Fragment) (t : ℕ) (b : Bool) → eq_by_cmp values_cmp g.values f.values ≡ b → f.period.start ≤ t → t < f.period.end → around f g + equal f g ≤ tally f.values t g
around_cases f g t true e from to = grind (arith, nat_tests)
around_cases f g t false e from to = grind (arith, nat_tests)

around_itself : (f : Fragment) (n : ℕ) → n ≡ around f f → n ≡ 0
around_itself f n is = let e = eq_from_same f.values f.values refl in grind (arith, nat_tests)

equal_itself : (f : Fragment) (n : ℕ) → n ≡ equal f f → n ≡ 1
equal_itself f n is = let e = eq_from_same f.values f.values refl in grind (arith, nat_tests)

pairs_head_here : {X : Type 0} (R : X → X → Type 0) (x : X) (xs : List X) → AllPairs R (x ∷ xs) → All (R x) xs
pairs_head_here R x xs h k d lt = h 0 (suc k) d (omega arith) (omega arith)

pairs_tail_here : {X : Type 0} (R : X → X → Type 0) (x : X) (xs : List X) → AllPairs R (x ∷ xs) → AllPairs R xs
pairs_tail_here R x xs h i j d lt below = h (suc i) (suc j) d (omega arith) (omega arith)

pairs_cons : {X : Type 0} (R : X → X → Type 0) (x : X) (xs : List X) → All (R x) xs → AllPairs R xs → AllPairs R (x ∷ xs)
pairs_cons R x xs first rest zero zero d lt below = absurd (omega arith)
pairs_cons R x xs first rest zero (suc j) d lt below = first j d (omega arith)
pairs_cons R x xs first rest (suc i) zero d lt below = absurd (omega arith)
pairs_cons R x xs first rest (suc i) (suc j) d lt below = rest i j d (omega arith) (omega arith)

sum_le : (a b : Fragment → ℕ) (fs : List Fragment) → All (λ f. a f ≤ b f) fs → sum_by a fs ≤ sum_by b fs
sum_le a b [] h = omega arith
sum_le a b (f ∷ fs) h =
    omega (arith, sum_by-cons a f fs, sum_by-cons b f fs, sum_le a b fs (All-tail (λ f. a f ≤ b f) f fs h), All-head (λ f. a f ≤ b f) f fs h)

sum_le_two : (a b c : Fragment → ℕ) (fs : List Fragment) → ((f : Fragment) → a f + b f ≤ c f) → sum_by a fs + sum_by b fs ≤ sum_by c fs
sum_le_two a b c [] h = omega arith
sum_le_two a b c (f ∷ fs) h =
    omega (arith, sum_by-cons a f fs, sum_by-cons b f fs, sum_by-cons c f fs, sum_le_two a b c fs h, h f)

module _ (m : List Value → ℕ → ℕ) (table : List Fragment) (is : IsLayers m table) where
  -- a row that holds the end of f, or the instant before it, contains f
  outside : (f : Fragment) (t : ℕ) → All (λ g. f.values ≡ g.values → TakesIn f.period g.period) table → All (λ g. g.values ≡ f.values → TakesIn g.period f.period) table → (t ≡ f.period.end) ⊎ (t + 1 ≡ f.period.start) → All (λ g. tally f.values t g ≤ around f g) table
  outside f t takes taken at k d lt =
      let g = get_or table k d in
      let f_ordered : f.period.start < f.period.end = f.period.ordered in
      elim (tally_is f.values t g) as (λ _. tally f.values t g ≤ around f g) [
        | inl none ↦ omega (arith, none)
        | inr held ↦
            let inner = takes k d lt (sym held.0) in
            let outer = taken k d lt held.0 in
            let one = tally_one f.values t g _ refl held.0 held.1 held.2 in
            elim at as (λ _. tally f.values t g ≤ around f g) [
              | inl end ↦
                  let start : g.period.start ≤ f.period.start = elim (cases_lt f.period.start g.period.start) [ inl later ↦ absurd (omega (arith, inner later (omega (arith, held.1)), held.2)) | inr le ↦ le ] in
                  omega (arith, one, around_one f g _ refl held.0 start (omega (arith, held.2)) (inr (omega (arith, held.2))))
              | inr before ↦
                  omega (arith, one, around_one f g _ refl held.0 (omega (arith, held.1)) (outer (omega (arith, held.1)) (omega (arith, held.2))) (inl (omega (arith, held.1))))
            ]
      ]

  run_at : (front : List Fragment) (f : Fragment) (back : List Fragment) → table ≡ front ++ f ∷ back → All (λ g. f.values ≡ g.values → TakesIn f.period g.period) table → All (λ g. g.values ≡ f.values → TakesIn g.period f.period) table → IsRun m f.values (level_of table front f) f.period
  run_at front f back split takes taken = record {
    positive = omega arith;
    inside = λ t from to.
        let in_front = sum_le_two (around f) (equal f) (tally f.values t) front (λ g. around_cases f g t _ refl from to) in
        let in_back = sum_le_two (around f) (equal f) (tally f.values t) back (λ g. around_cases f g t _ refl from to) in
        let all = ap (sum_by (tally f.values t)) split ∙ sum_by-append (tally f.values t) front (f ∷ back) in
        let rounds = ap (sum_by (around f)) split ∙ sum_by-append (around f) front (f ∷ back) in
        omega (arith, in_front, in_back, all, rounds, sum_by-cons (tally f.values t) f back, sum_by-cons (around f) f back, tally_one f.values t f _ refl refl from to, around_itself f _ refl, copies-sum_by table f.values t, is.counted f.values t);
    before = λ t at. omega (arith, sum_le (tally f.values t) (around f) table (outside f t takes taken (inr at)), copies-sum_by table f.values t, is.counted f.values t);
    after = omega (arith, sum_le (tally f.values f.period.end) (around f) table (outside f f.period.end takes taken (inl refl)), copies-sum_by table f.values f.period.end, is.counted f.values f.period.end);
  }

  runs_from : (front back : List Fragment) → table ≡ front ++ back → All (λ f. All (λ g. f.values ≡ g.values → TakesIn f.period g.period) table) back → All (λ f. All (λ g. g.values ≡ f.values → TakesIn g.period f.period) table) back → AllZip (λ f level. IsRun m f.values level f.period) back (levels_of table front back)
  runs_from front [] split takes taken = tt
  runs_from front (f ∷ back) split takes taken = (
    run_at front f back split (All-head (λ f. All (λ g. f.values ≡ g.values → TakesIn f.period g.period) table) f back takes) (All-head (λ f. All (λ g. g.values ≡ f.values → TakesIn g.period f.period) table) f back taken),
    runs_from (front ++ f ∷ []) back (split ∙ sym (append_assoc front (f ∷ []) back)) (All-tail (λ f. All (λ g. f.values ≡ g.values → TakesIn f.period g.period) table) f back takes) (All-tail (λ f. All (λ g. g.values ≡ f.values → TakesIn g.period f.period) table) f back taken),
  )

-- a later row equal to f has a higher level
levels_rise : (table front back : List Fragment) (f : Fragment) (low : ℕ) → low ≤ sum_by (equal f) front → All (λ x. x.0 ≡ f → 1 + sum_by (around f) table + low ≤ x.1) (zip back (levels_of table front back))
levels_rise table front [] f low h = All-nil (λ x. x.0 ≡ f → 1 + sum_by (around f) table + low ≤ x.1)
levels_rise table front (g ∷ back) f low h =
    All-cons (λ x. x.0 ≡ f → 1 + sum_by (around f) table + low ≤ x.1) (g, level_of table front g) (zip back (levels_of table (front ++ g ∷ []) back))
    (λ same. omega (arith, ap (level_of table front) same))
    (levels_rise table (front ++ g ∷ []) back f low (omega (arith, sum_by_push (equal f) front g)))

levels_differ : (table front back : List Fragment) → AllPairs (λ x y. x ≢ y) (zip back (levels_of table front back))
levels_differ table front [] = λ i j d lt below. absurd (omega arith)
levels_differ table front (f ∷ back) =
    pairs_cons (λ x y. x ≢ y) (f, level_of table front f) (zip back (levels_of table (front ++ f ∷ []) back))
    (All-weaker (λ x. x.0 ≡ f → 1 + sum_by (around f) table + (sum_by (equal f) front + 1) ≤ x.1) (λ x. (f, level_of table front f) ≢ x)
    (λ x rise same. absurd (omega (arith, rise (ap (λ (y : Fragment × ℕ). y.0) (sym same)), ap (λ (y : Fragment × ℕ). y.1) same)))
    (zip back (levels_of table (front ++ f ∷ []) back))
    (levels_rise table (front ++ f ∷ []) back f (sum_by (equal f) front + 1) (omega (arith, sum_by_push (equal f) front f, equal_itself f _ refl))))
    (levels_differ table (front ++ f ∷ []) back)

-- ---- each run has a row: the rows that hold an instant have as many levels as there are copies, all different

abbrev pub Labelled : Type 0
Labelled = Fragment × ℕ

-- the rows with the values that hold the instant
abbrev pub counts_at : List Value → ℕ → Labelled → Bool
counts_at v t x = holds x.0.period t && eq_by_cmp values_cmp x.0.values v

-- their levels
abbrev pub levels_at : List Value → ℕ → List Labelled → List ℕ
levels_at v t [] = []
levels_at v t (x ∷ xs) = cond (counts_at v t x) (x.1 ∷ levels_at v t xs) (levels_at v t xs)

length_cond : (b : Bool) (x : ℕ) (xs : List ℕ) → length (cond b (x ∷ xs) xs) ≡ cond b 1 0 + length xs
length_cond true x xs = omega arith
length_cond false x xs = omega arith

and_cond : (a b : Bool) (n : ℕ) → n ≡ cond (a && b) 1 0 → n ≡ cond a (cond b 1 0) 0
and_cond true b n e = e
and_cond false b n e = e

pub length-levels_at : (R : Fragment → ℕ → Type 0) (v : List Value) (t : ℕ) (rows : List Fragment) (levels : List ℕ) → AllZip R rows levels → length (levels_at v t (zip rows levels)) ≡ sum_by (tally v t) rows
length-levels_at R v t [] levels all = refl
length-levels_at R v t (f ∷ rows) [] all = absurd all
length-levels_at R v t (f ∷ rows) (j ∷ levels) all =
    omega (arith, length_cond (counts_at v t (f, j)) j (levels_at v t (zip rows levels)), and_cond (holds f.period t) (eq_by_cmp values_cmp f.values v) _ refl, length-levels_at R v t rows levels all.1, sum_by-cons (tally v t) f rows)

-- a row with the values that holds the instant, and its level
pub record Found (v : List Value) (t level : ℕ) (xs : List Labelled) : Type 0 where
  pub row : Labelled
  pub stands : Contains xs row
  pub at_level : row.1 ≡ level
  pub has_values : row.0.values ≡ v
  pub holds_it : holds row.0.period t ≡ true

found_later : (v : List Value) (t level : ℕ) (x : Labelled) (xs : List Labelled) → Found v t level xs → Found v t level (x ∷ xs)
found_later v t level x xs f = record { row = f.row; stands = (suc f.stands.0, omega (arith, f.stands.1), f.stands.2); at_level = f.at_level; has_values = f.has_values; holds_it = f.holds_it }

pub found : (v : List Value) (t level : ℕ) (xs : List Labelled) → list_any (eqb level) (levels_at v t xs) ≡ true → Found v t level xs
found v t level [] any = cc
found v t level (x ∷ xs) any = split (counts_at v t x) refl any (found v t level xs)
  where
    split : (b : Bool) → counts_at v t x ≡ b → list_any (eqb level) (cond b (x.1 ∷ levels_at v t xs) (levels_at v t xs)) ≡ true → (list_any (eqb level) (levels_at v t xs) ≡ true → Found v t level xs) → Found v t level (x ∷ xs)
    split false is any later = found_later v t level x xs (later any)
    split true is any later = elim (or_cases (eqb level x.1) (list_any (eqb level) (levels_at v t xs)) any) [
      | inl here ↦ record {
        row = x;
        stands = (0, omega arith, refl);
        at_level = sym (eqb-true level x.1 here);
        has_values = same_from_eq x.0.values v ((and_parts (holds x.0.period t) (eq_by_cmp values_cmp x.0.values v) is).1);
        holds_it = (and_parts (holds x.0.period t) (eq_by_cmp values_cmp x.0.values v) is).0;
      }
      | inr there ↦ found_later v t level x xs (later there)
    ]

pub none_by_recursion : (x : ℕ) (xs : List ℕ) → list_any (eqb x) xs ≡ false → AllByRecursion (λ y. eqb x y ≡ false) xs
none_by_recursion x [] none = tt
none_by_recursion x (y ∷ ys) none =
    let parts = or_parts (eqb x y) (list_any (eqb x) ys) none in
    (parts.0, none_by_recursion x ys parts.1)

module _ (m : List Value → ℕ → ℕ) where
  -- two runs at one level that hold a common instant are equal
  pub same_run : (v : List Value) (level t : ℕ) (p q : Period) → IsRun m v level p → IsRun m v level q → holds p t ≡ true → holds q t ≡ true → p ≡ q
  same_run v level t p q a b in_p in_q =
      let hp = held_from p t in_p in
      let hq = held_from q t in_q in
      period_same p q (omega (arith, no_sooner p q a b hp hq, no_sooner q p b a hq hp)) (omega (arith, no_later p q a b hp hq, no_later q p b a hq hp))
    where
      no_sooner : (p q : Period) → IsRun m v level p → IsRun m v level q → (p.start ≤ t) × (t < p.end) → (q.start ≤ t) × (t < q.end) → p.start ≤ q.start
      no_sooner p q a b hp hq = elim (cases_lt q.start p.start) [
        | inr le ↦ le
        | inl lt ↦ absurd (omega (arith, a.before (p.start - 1) (omega (arith, lt)), b.inside (p.start - 1) (omega (arith, lt)) (omega (arith, hp, hq, lt))))
      ]

      no_later : (p q : Period) → IsRun m v level p → IsRun m v level q → (p.start ≤ t) × (t < p.end) → (q.start ≤ t) × (t < q.end) → q.end ≤ p.end
      no_later p q a b hp hq = elim (cases_lt p.end q.end) [
        | inr le ↦ le
        | inl lt ↦ absurd (omega (arith, a.after, b.inside p.end (omega (arith, hp, hq)) lt))
      ]

  abbrev pub Labels : Labelled → Type 0
  Labels x = IsRun m x.0.values x.1 x.0.period

  -- the run of a row that was found
  pub found_run : (v : List Value) (t level : ℕ) (xs : List Labelled) → All Labels xs → (f : Found v t level xs) → IsRun m v level f.row.0.period
  found_run v t level xs runs f =
      let run = All-contains Labels xs f.row runs f.stands in
      subst (λ j. IsRun m v j f.row.0.period) f.at_level (subst (λ u. IsRun m u f.row.1 f.row.0.period) f.has_values run)

  -- the row that was found is the one of a run that holds the instant
  pub found_is : (v : List Value) (t level : ℕ) (xs : List Labelled) → All Labels xs → (f : Found v t level xs) → (p : Period) → IsRun m v level p → holds p t ≡ true → f.row ≡ (record { values = v; period = p }, level)
  found_is v t level xs runs f p run in_p =
      let same = same_run v level t f.row.0.period p (found_run v t level xs runs f) run f.holds_it in_p in
      λ i. (record { values = f.has_values i; period = same i }, f.at_level i)

  pub distinct_levels : (v : List Value) (t : ℕ) (xs : List Labelled) → All Labels xs → AllPairs (λ x y. x ≢ y) xs → IsDistinct eqb (levels_at v t xs)
  unfolding IsDistinct
  distinct_levels v t [] runs once = tt
  distinct_levels v t (x ∷ xs) runs once = split (counts_at v t x) refl (distinct_levels v t xs (All-tail Labels x xs runs) (pairs_tail_here (λ x y. x ≢ y) x xs once))
    where
      no_other : counts_at v t x ≡ true → (b : Bool) → list_any (eqb x.1) (levels_at v t xs) ≡ b → b ≡ false
      no_other is false any = refl
      no_other is true any =
          let parts = and_parts (holds x.0.period t) (eq_by_cmp values_cmp x.0.values v) is in
          let values_same = same_from_eq x.0.values v parts.1 in
          let f = found v t x.1 xs any in
          let run : IsRun m v x.1 x.0.period = subst (λ u. IsRun m u x.1 x.0.period) values_same (All-head Labels x xs runs) in
          let same = found_is v t x.1 xs (All-tail Labels x xs runs) f x.0.period run parts.0 in
          let back : x ≡ f.row = (λ i. (record { values = values_same i; period = x.0.period }, x.1)) ∙ sym same in
          absurd (All-contains (λ y. x ≢ y) xs f.row (pairs_head_here (λ x y. x ≢ y) x xs once) f.stands back)

      split : (b : Bool) → counts_at v t x ≡ b → IsDistinct eqb (levels_at v t xs) → IsDistinct eqb (cond b (x.1 ∷ levels_at v t xs) (levels_at v t xs))
      split false is rest = rest
      split true is rest = (none_by_recursion x.1 (levels_at v t xs) (no_other is (list_any (eqb x.1) (levels_at v t xs)) refl), rest)

  -- as many levels as copies, all different and none greater: so each level occurs
  each_run : (xs : List Labelled) → All Labels xs → AllPairs (λ x y. x ≢ y) xs → (v : List Value) (level : ℕ) (p : Period) → IsRun m v level p → length (levels_at v p.start xs) ≡ m v p.start → Contains xs (record { values = v; period = p }, level)
  unfolding IsDistinct
  each_run xs runs once v level p run long = split (list_any (eqb level) (levels_at v p.start xs)) refl
    where
      at_start : holds p p.start ≡ true
      at_start = let o : p.start < p.end = p.ordered in grind (arith, nat_tests)

      all : List ℕ
      all = levels_at v p.start xs

      bounded : (q : ℕ) → list_any (eqb q) all ≡ true → (0 < q) × (q ≤ m v p.start)
      bounded q any =
          let f = found v p.start q xs any in
          let r = found_run v p.start q xs runs f in
          let h = held_from f.row.0.period p.start f.holds_it in
          (r.positive, r.inside p.start h.0 h.1)

      no_zero : (b : Bool) → list_any (eqb 0) all ≡ b → b ≡ false
      no_zero false any = refl
      no_zero true any = absurd (omega (arith, bounded 0 any))

      within : (q : ℕ) → list_any (eqb q) (0 ∷ level ∷ all) ≡ true → q < m v p.start + 1
      within q any = elim (or_cases (eqb q 0) (eqb q level || list_any (eqb q) all) any) [
        | inl zero_it ↦ omega (arith, eqb-true q 0 zero_it)
        | inr more ↦ elim (or_cases (eqb q level) (list_any (eqb q) all) more) [
          | inl here ↦ omega (arith, eqb-true q level here, run.inside p.start (omega arith) p.ordered)
          | inr there ↦ omega (arith, bounded q there)
        ]
      ]

      distinct : list_any (eqb level) all ≡ false → IsDistinct eqb (0 ∷ level ∷ all)
      distinct none = (
        (ne_eqb 0 level (λ e. omega (arith, run.positive)), none_by_recursion 0 all (no_zero (list_any (eqb 0) all) refl)),
        (none_by_recursion level all none, distinct_levels v p.start xs runs once),
      )

      split : (b : Bool) → list_any (eqb level) all ≡ b → Contains xs (record { values = v; period = p }, level)
      split true any =
          let f = found v p.start level xs any in
          subst (Contains xs) (found_is v p.start level xs runs f p run at_start) f.stands
      split false any =
          absurd (omega (arith, length-le_from_distinct_below (0 ∷ level ∷ all) (m v p.start + 1) (distinct any) within, long))

pub all_labelled : (R : Fragment → ℕ → Type 0) (rows : List Fragment) (levels : List ℕ) → AllZip R rows levels → All (λ x. R x.0 x.1) (zip rows levels)
all_labelled R [] levels h = All-nil (λ x. R x.0 x.1)
all_labelled R (f ∷ rows) [] h = absurd h
all_labelled R (f ∷ rows) (j ∷ levels) h = All-cons (λ x. R x.0 x.1) (f, j) (zip rows levels) h.0 (all_labelled R rows levels h.1)

pub layers_are_runs : (m : List Value → ℕ → ℕ) (table : List Fragment) → IsLayers m table → RowsAreRuns m table
layers_are_runs m table is = record { levels = levels; runs = runs; once = once; every = every }
  where
    levels : List ℕ
    levels = levels_of table [] table

    runs : AllZip (λ f level. IsRun m f.values level f.period) table levels
    runs = runs_from m table is [] table refl is.coalesced (λ k d lt j e below. is.coalesced j e below k d lt)

    once : AllPairs (λ x y. x ≢ y) (zip table levels)
    once = levels_differ table [] table

    every : (v : List Value) (level : ℕ) (p : Period) → IsRun m v level p → Contains (zip table levels) (record { values = v; period = p }, level)
    every v level p run =
        each_run m (zip table levels) (all_labelled (λ f j. IsRun m f.values j f.period) table levels runs) once v level p run
        (length-levels_at (λ f j. IsRun m f.values j f.period) v p.start table levels runs ∙ sym (copies-sum_by table v p.start) ∙ is.counted v p.start)
