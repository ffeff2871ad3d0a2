-- Ordered rows that are exactly the maximal runs are the layers.
use Rattle.std.proofs.Common.{◌≡◌, ℕ, zero, suc, ◌+◌, ◌-◌, ◌<◌, ◌≤◌, eqb, Bool, true, false, cond, ◌||◌, List, [], ◌∷◌, length, get_or, sum_by, refl, sym, ap, ◌∙◌, subst, arith, inl, inr}
use Rattle.std.specs.Prelude.{All, IsSorted}
use Rattle.std.specs.List.{AllZip, IsDistinct, list_any, zip}
use Rattle.std.proofs.lemmas.Bool.{cases_lt, or_cases, eqb-true}
use Rattle.std.proofs.lemmas.Bool.Decides.{nat_tests}
use Rattle.std.proofs.lemmas.Map.Steps.{length-le_from_distinct_below, le-length_from_below}
use Rattle.tq_base.specs.declared.period.TheConstants.{FOREVER}
use Rattle.tq_base.specs.declared.value.Value.{Value}
use Rattle.tq_base.specs.declared.period.Period.{Period}
use Rattle.tq_base.specs.declared.fragment.Fragment.{Fragment}
use Rattle.tq_base.specs.ValueOrder.{eq_from_same}
use Rattle.tq_base.specs.Fragments.{fragment_cmp}
use Rattle.tq_base.specs.Periods.{holds}
use Rattle.tq_base.specs.Copies.{tally, copies-sum_by}
use Rattle.tq_base.specs.Layers.{TakesIn, IsCoalesced, IsLayers, IsRun, RowsAreRuns, EndsByForever}
use Rattle.tq_base.proofs.Unique.{held_from}
use Rattle.tq_base.proofs.Runs.{Labelled, Labels, counts_at, levels_at, length-levels_at, all_labelled, found, found_run, distinct_levels, none_by_recursion}

-- ---- a run around an instant

module _ (m : List Value → ℕ → ℕ) (v : List Value) (level : ℕ) where
  -- the earliest instant from which there are at least this many copies without a break
  record First (t : ℕ) : Type 0 where
    start : ℕ
    sooner : start ≤ t
    inside : (s : ℕ) → start ≤ s → s ≤ t → level ≤ m v s
    before : (s : ℕ) → s + 1 ≡ start → m v s < level

  first : (t : ℕ) → level ≤ m v t → First t
  first zero here = record {
    start = 0;
    sooner = omega arith;
    inside = λ s low high. let same : s ≡ 0 = omega arith in subst (λ x. level ≤ m v x) (sym same) here;
    before = λ s next. absurd (omega arith);
  }
  first (suc t) here = elim (cases_lt (m v t) level) [
    | inl fewer ↦ record {
      start = suc t;
      sooner = omega arith;
      inside = λ s low high. let same : s ≡ suc t = omega arith in subst (λ x. level ≤ m v x) (sym same) here;
      before = λ s next. let same : s ≡ t = omega arith in subst (λ x. m v x < level) (sym same) fewer;
    }
    | inr enough ↦
        let rest = first t enough in
        record {
          start = rest.start;
          sooner = omega (arith, rest.sooner);
          inside = λ s low high. elim (cases_lt t s) [
            | inl last ↦ let same : s ≡ suc t = omega arith in subst (λ x. level ≤ m v x) (sym same) here
            | inr earlier ↦ rest.inside s low earlier
          ];
          before = rest.before;
        }
  ]

  -- the first instant after t at which there are fewer copies, if there is one within n
  record Last (t : ℕ) : Type 0 where
    end : ℕ
    later : t < end
    inside : (s : ℕ) → t ≤ s → s < end → level ≤ m v s
    after : m v end < level

  last : (n t : ℕ) → level ≤ m v t → m v (t + 1 + n) < level → Last t
  last zero t here fewer = record {
    end = t + 1;
    later = omega arith;
    inside = λ s low high. let same : s ≡ t = omega arith in subst (λ x. level ≤ m v x) (sym same) here;
    after = let same : t + 1 + 0 ≡ t + 1 = omega arith in subst (λ x. m v x < level) same fewer;
  }
  last (suc n) t here fewer = elim (cases_lt (m v (t + 1)) level) [
    | inl fewer_next ↦ record {
      end = t + 1;
      later = omega arith;
      inside = λ s low high. let same : s ≡ t = omega arith in subst (λ x. level ≤ m v x) (sym same) here;
      after = fewer_next;
    }
    | inr enough ↦
        let same : t + 1 + suc n ≡ t + 1 + 1 + n = omega arith in
        let rest = last n (t + 1) enough (subst (λ x. m v x < level) same fewer) in
        record {
          end = rest.end;
          later = omega (arith, rest.later);
          inside = λ s low high. elim (cases_lt t s) [
            | inl beyond ↦ rest.inside s (omega arith) high
            | inr at ↦ let here_it : s ≡ t = omega arith in subst (λ x. level ≤ m v x) (sym here_it) here
          ];
          after = rest.after;
        }
  ]

  record RunRound (t : ℕ) : Type 0 where
    pub period : Period
    pub is_run : IsRun m v level period
    pub holds_it : holds period t ≡ true

  holds_between : (p : Period) (t : ℕ) → p.start ≤ t → t < p.end → holds p t ≡ true
  holds_between p t low high = grind (arith, nat_tests)

  run_round : EndsByForever m → 0 < level → (t : ℕ) → level ≤ m v t → RunRound t
  run_round ends positive t here = elim (cases_lt t FOREVER) [
    | inr past ↦ absurd (omega (arith, ends v t past))
    | inl within ↦
        let low = first t here in
        let all : t + 1 + (FOREVER - (t + 1)) ≡ FOREVER = omega arith in
        let none = ends v FOREVER (omega arith) in
        let high = last (FOREVER - (t + 1)) t here (subst (λ x. m v x < level) (sym all) (omega (arith, none))) in
        let p : Period = record { start = low.start; end = high.end; ordered = omega (arith, low.sooner, high.later) } in
        record {
          period = p;
          is_run = record {
            positive = positive;
            inside = λ s from to. elim (cases_lt t s) [
              | inl beyond ↦ high.inside s (omega arith) to
              | inr before ↦ low.inside s from before
            ];
            before = low.before;
            after = high.after;
          };
          holds_it = holds_between p t low.sooner high.later;
        }
  ]

-- ---- the levels of the rows that hold an instant are those of its copies

or_right : (a b : Bool) → b ≡ true → (a || b) ≡ true
or_right true b e = refl
or_right false b e = e

counted_in : (v : List Value) (t : ℕ) (xs : List Labelled) (k : ℕ) (x : Labelled) → k < length xs → get_or xs k x ≡ x → counts_at v t x ≡ true → list_any (eqb x.1) (levels_at v t xs) ≡ true
counted_in v t [] k x lt is counts = absurd (omega arith)
counted_in v t (y ∷ xs) zero x lt is counts =
    let here : counts_at v t y ≡ true = subst (λ (z : Labelled). counts_at v t z ≡ true) (sym is) counts in
    let same : y.1 ≡ x.1 = ap (λ (z : Labelled). z.1) is in
    rw (here, same) (self_or x.1 (levels_at v t xs))
  where
    self_or : (n : ℕ) (ns : List ℕ) → list_any (eqb n) (n ∷ ns) ≡ true
    self_or n ns = grind (arith, nat_tests)
counted_in v t (y ∷ xs) (suc k) x lt is counts = split (counts_at v t y) (counted_in v t xs k x (omega arith) is counts)
  where
    split : (b : Bool) → list_any (eqb x.1) (levels_at v t xs) ≡ true → list_any (eqb x.1) (cond b (y.1 ∷ levels_at v t xs) (levels_at v t xs)) ≡ true
    split true any = or_right (eqb x.1 y.1) (list_any (eqb x.1) (levels_at v t xs)) any
    split false any = any

module _ (m : List Value → ℕ → ℕ) (table : List Fragment) (ends : EndsByForever m) (is : RowsAreRuns m table) where
  runs : All (Labels m) (zip table is.levels)
  runs = all_labelled (λ f level. IsRun m f.values level f.period) table is.levels is.runs

  -- no more rows than copies
  at_most : (v : List Value) (t : ℕ) → length (levels_at v t (zip table is.levels)) ≤ m v t
  unfolding IsDistinct
  at_most v t = omega (arith, length-le_from_distinct_below (0 ∷ all) (m v t + 1) distinct within)
    where
      all : List ℕ
      all = levels_at v t (zip table is.levels)

      bounded : (q : ℕ) → list_any (eqb q) (levels_at v t (zip table is.levels)) ≡ true → (0 < q) × (q ≤ m v t)
      bounded q any =
          let f = found v t q (zip table is.levels) any in
          let r = found_run m v t q (zip table is.levels) runs f in
          let h = held_from f.row.0.period t f.holds_it in
          (r.positive, r.inside t h.0 h.1)

      no_zero : (b : Bool) → list_any (eqb 0) (levels_at v t (zip table is.levels)) ≡ b → b ≡ false
      no_zero false any = refl
      no_zero true any = absurd (omega (arith, bounded 0 any))

      within : (q : ℕ) → list_any (eqb q) (0 ∷ levels_at v t (zip table is.levels)) ≡ true → q < m v t + 1
      within q any = elim (or_cases (eqb q 0) (list_any (eqb q) (levels_at v t (zip table is.levels))) any) [
        | inl zero_it ↦ omega (arith, eqb-true q 0 zero_it)
        | inr there ↦ omega (arith, bounded q there)
      ]

      distinct : IsDistinct eqb (0 ∷ levels_at v t (zip table is.levels))
      distinct = (none_by_recursion 0 all (no_zero (list_any (eqb 0) all) refl), distinct_levels m v t (zip table is.levels) runs is.once)

  -- and no fewer rows than copies
  at_least : (v : List Value) (t : ℕ) → m v t ≤ length (levels_at v t (zip table is.levels))
  at_least v t = omega (arith, le-length_from_below (0 ∷ levels_at v t (zip table is.levels)) (m v t + 1) each)
    where
      each : (q : ℕ) → q < m v t + 1 → list_any (eqb q) (0 ∷ levels_at v t (zip table is.levels)) ≡ true
      each zero lt = refl
      each (suc j) lt =
          let run = run_round m v (suc j) ends (omega arith) t (omega arith) in
          let row : Labelled = (record { values = v; period = run.period }, suc j) in
          let (k, below, at) = is.every v (suc j) run.period run.is_run in
          let counts : counts_at v t row ≡ true = rw (run.holds_it, eq_from_same v v refl) refl in
          or_right (eqb (suc j) 0) _ (counted_in v t (zip table is.levels) k row below at counts)

  counted : (v : List Value) (t : ℕ) → sum_by (tally v t) table ≡ m v t
  counted v t = omega (arith, at_most v t, at_least v t, length-levels_at (λ f level. IsRun m f.values level f.period) v t table is.levels is.runs)

  -- a row is a run at some level
  abbrev Run : Fragment → Type 0
  Run f = (level : ℕ) × IsRun m f.values level f.period

  -- if one row begins inside another with the same values, or at its end, it lies inside it
  coalesced : IsCoalesced table
  coalesced i d in_i j e in_j = takes_in (get_or table i d) (get_or table j e) (row_run table is.levels is.runs i d in_i) (row_run table is.levels is.runs j e in_j)
    where
      row_run : (rows : List Fragment) (levels : List ℕ) → AllZip (λ f level. IsRun m f.values level f.period) rows levels → (k : ℕ) (d : Fragment) → k < length rows → Run (get_or rows k d)
      row_run [] levels all k d lt = absurd (omega arith)
      row_run (f ∷ rows) [] all k d lt = absurd all
      row_run (f ∷ rows) (level ∷ levels) all zero d lt = (level, all.0)
      row_run (f ∷ rows) (level ∷ levels) all (suc k) d lt = row_run rows levels all.1 k d (omega arith)

      takes_in : (f g : Fragment) → Run f → Run g → f.values ≡ g.values → TakesIn f.period g.period
      takes_in f g (low, a) (high, b) same begins meets = elim (cases_lt f.period.end g.period.end) [
        | inr le ↦ le
        | inl longer ↦
            let at_end = b.inside f.period.end meets longer in
            let ended : m g.values f.period.end < low = subst (λ u. m u f.period.end < low) same a.after in
            let last_before = g.period.start - 1 in
            let ordered : f.period.start < f.period.end = f.period.ordered in
            let inside : low ≤ m g.values last_before = subst (λ u. low ≤ m u last_before) same (a.inside last_before (omega arith) (omega arith)) in
            absurd (omega (arith, at_end, ended, inside, b.before last_before (omega arith)))
      ]

pub runs_are_layers : (m : List Value → ℕ → ℕ) (table : List Fragment) → EndsByForever m → IsSorted fragment_cmp table → RowsAreRuns m table → IsLayers m table
runs_are_layers m table ends ordered is = record {
  ordered = ordered;
  coalesced = coalesced m table ends is;
  counted = λ v t. copies-sum_by table v t ∙ counted m table ends is v t;
}
