-- At an instant at which nothing starts or ends, what is valid is what was valid at the instant before.
use Rattle.std.proofs.Common.{◌≡◌, ◌≢◌, ℕ, zero, suc, ◌+◌, ◌-◌, ◌<◌, ◌≤◌, ◌==◌, ◌&&◌, Bool, true, false, cond, if◌then◌else◌, List, [], ◌∷◌, Option, Some, None, map, take, nat_lt, refl, ap, ◌∙◌, arith}
use Rattle.std.specs.Prelude.{All, Contains, filter, nat_le}
use Rattle.std.specs.List.{AllZip}
use Rattle.std.proofs.lemmas.Bool.Decides.{nat_tests}
use Rattle.std.proofs.lemmas.List.Elements.{All-nil, All-cons}
use Rattle.tq_base.specs.declared.fragment.Fragment.{Fragment}
use Rattle.tq_base.specs.declared.period.Period.{Period}
use Rattle.tq_base.specs.declared.period.TheConstants.{FOREVER}
use Rattle.tq_base.specs.declared.value.Value.{Value}
use Rattle.tq_base.specs.Fragments.{occurrences}
use Rattle.tq_base.specs.Layers.{IsRun, LayersAreRuns}
use Rattle.tq_base.specs.Periods.{holds}
use Rattle.tq_event.specs.declared.event.Event.{Event}
use Rattle.tq_event.specs.declared.event.Event.TheVariants.{Start, End}
use Rattle.tq_event.specs.History.{Row, end_of, rows_from, time_of, valid_at}
use Rattle.tq_plan.specs.declared.plans.Plan.{Plan}
use Rattle.tq_plan.specs.declared.plans.QueryPlan.{QueryPlan}
use Rattle.tq_plan.specs.Plans.{tables_of}
use Rattle.tq_exec.specs.Answers.{as_of, times_at, times_in, times_in_right}
use Rattle.tq_exec.specs.Bounds.{given_bounds, BoundsAreGiven, IsBoundedBy}
use Rattle.tq_exec.specs.Ordinary.{ordinary}

-- whether the instant is none of the list
abbrev lacks : ℕ → List ℕ → Bool
lacks t [] = true
lacks t (x ∷ xs) = if x == t then false else lacks t xs

lacks_first : (t x : ℕ) (xs : List ℕ) → lacks t (x ∷ xs) ≡ true → (x ≢ t) × (lacks t xs ≡ true)
lacks_first t x xs e = by (x == t) refl e
  where
    by : (b : Bool) → (x == t) ≡ b → cond b false (lacks t xs) ≡ true → (x ≢ t) × (lacks t xs ≡ true)
    by true i j = absurd cc
    by false i j = (grind (arith, nat_tests), j)

found : (t : ℕ) (xs : List ℕ) → lacks t xs ≡ false → Contains xs t
found t [] e = absurd cc
found t (x ∷ xs) e = by (x == t) refl e (λ later. found t xs later)
  where
    by : (b : Bool) → (x == t) ≡ b → cond b false (lacks t xs) ≡ false → (lacks t xs ≡ false → Contains xs t) → Contains (x ∷ xs) t
    by true i j behind = (0, omega arith, grind (arith, nat_tests))
    by false i j behind = let rest = behind j in (suc rest.0, omega (arith, rest.1), rest.2)

-- an interval that neither begins nor ends at an instant holds it just where it holds the instant before
same_held : (from to s : ℕ) → from ≢ suc s → to ≢ suc s → (nat_le from s && nat_lt s to) ≡ (nat_le from (suc s) && nat_lt (suc s) to)
same_held from to s start end = grind (arith, nat_tests)

-- a row ends at none but the times of the events, or never
end_elsewhere : (table row t : ℕ) (events : List Event) → FOREVER ≢ t → lacks t (map time_of events) ≡ true → end_of table row events ≢ t
end_elsewhere table row t [] never e = never
end_elsewhere table row t (Start table' v at ∷ events) never e = end_elsewhere table row t events never (lacks_first t at (map time_of events) e).1
end_elsewhere table row t (End table' r at ∷ events) never e =
    let first = lacks_first t at (map time_of events) e in
    by (table' == table && r == row) first.0 (end_elsewhere table row t events never first.1)
  where
    by : (b : Bool) → at ≢ t → end_of table row events ≢ t → cond b at (end_of table row events) ≢ t
    by true here later = here
    by false here later = later

abbrev is_valid : ℕ → Row → Bool
is_valid t row = nat_le row.from t && nat_lt t row.to

abbrev values_at : ℕ → List Row → List (List Value)
values_at t rows = map (λ (row : Row). row.values) (filter (is_valid t) rows)

one_more : (b : Bool) (row : Row) (xs ys : List Row) → map (λ (r : Row). r.values) xs ≡ map (λ (r : Row). r.values) ys
    → map (λ (r : Row). r.values) (cond b (row ∷ xs) xs) ≡ map (λ (r : Row). r.values) (cond b (row ∷ ys) ys)
one_more true row xs ys e = ap (λ l. row.values ∷ l) e
one_more false row xs ys e = e

rows_alike : (table next s : ℕ) (events : List Event) → FOREVER ≢ suc s → lacks (suc s) (map time_of events) ≡ true
    → values_at s (rows_from table next events) ≡ values_at (suc s) (rows_from table next events)
rows_alike table next s [] never e = refl
rows_alike table next s (Start table' v at ∷ events) never e =
    let first = lacks_first (suc s) at (map time_of events) e in
    by (table' == table) first.0 first.1 (rows_alike table (next + 1) s events never first.1) (rows_alike table next s events never first.1)
  where
    by : (b : Bool) → at ≢ suc s → lacks (suc s) (map time_of events) ≡ true
        → values_at s (rows_from table (next + 1) events) ≡ values_at (suc s) (rows_from table (next + 1) events)
        → values_at s (rows_from table next events) ≡ values_at (suc s) (rows_from table next events)
        → (let rows = cond b (record { number = next; values = v; from = at; to = end_of table next events } ∷ rows_from table (next + 1) events) (rows_from table next events) in values_at s rows ≡ values_at (suc s) rows)
    by true here later behind others =
        let row : Row = record { number = next; values = v; from = at; to = end_of table next events } in
        let rest = rows_from table (next + 1) events in
        let held : is_valid s row ≡ is_valid (suc s) row = same_held at (end_of table next events) s here (end_elsewhere table next (suc s) events never later) in
        one_more (is_valid s row) row (filter (is_valid s) rest) (filter (is_valid (suc s)) rest) behind
        ∙ ap (λ b. map (λ (r : Row). r.values) (cond b (row ∷ filter (is_valid (suc s)) rest) (filter (is_valid (suc s)) rest))) held
    by false here later behind others = others
rows_alike table next s (End table' r at ∷ events) never e = rows_alike table next s events never (lacks_first (suc s) at (map time_of events) e).1

-- so each row stands in the statement's answer as often as at the instant before
times_same : (history : List Event) (n : ℕ) (plan : Plan) (v : List Value) (s : ℕ) → lacks (suc s) (given_bounds history n plan) ≡ true
    → times_at (as_of history n) plan v s ≡ times_at (as_of history n) plan v (suc s)
times_same history n plan v s e =
    let zeroth = lacks_first (suc s) 0 (FOREVER ∷ plan.window.start ∷ plan.window.end ∷ map time_of (take n history)) e in
    let last = lacks_first (suc s) FOREVER (plan.window.start ∷ plan.window.end ∷ map time_of (take n history)) zeroth.1 in
    let start = lacks_first (suc s) plan.window.start (plan.window.end ∷ map time_of (take n history)) last.1 in
    let end = lacks_first (suc s) plan.window.end (map time_of (take n history)) start.1 in
    let valid : (table : ℕ) → valid_at history n table s ≡ valid_at history n table (suc s) = λ table. rows_alike table 0 s (take n history) last.0 end.1 in
    let held : holds plan.window s ≡ holds plan.window (suc s) = same_held plan.window.start plan.window.end s start.0 end.0 in
    λ i. if held i then left_same plan.left valid i - right_same plan.right valid i else 0
  where
    left_same : (query : QueryPlan) → ((table : ℕ) → valid_at history n table s ≡ valid_at history n table (suc s))
        → times_in (as_of history n) query v s ≡ times_in (as_of history n) query v (suc s)
    left_same query valid = λ i. occurrences (ordinary query (map (λ table. valid table i) (tables_of query))) v

    right_same : (query : Option QueryPlan) → ((table : ℕ) → valid_at history n table s ≡ valid_at history n table (suc s))
        → times_in_right (as_of history n) query v s ≡ times_in_right (as_of history n) query v (suc s)
    right_same None valid = refl
    right_same (Some query) valid = left_same query valid

-- where a count changes from one instant to the next, the later one is given
changes_are_given : (history : List Event) (n : ℕ) (plan : Plan) (v : List Value) (s : ℕ)
    → times_at (as_of history n) plan v s ≢ times_at (as_of history n) plan v (suc s) → Contains (given_bounds history n plan) (suc s)
changes_are_given history n plan v s changes = by (lacks (suc s) (given_bounds history n plan)) refl
  where
    by : (b : Bool) → lacks (suc s) (given_bounds history n plan) ≡ b → Contains (given_bounds history n plan) (suc s)
    by true e = absurd (changes (times_same history n plan v s e))
    by false e = found (suc s) (given_bounds history n plan) e

module _ (history : List Event) (n : ℕ) (plan : Plan) where
  abbrev times : List Value → ℕ → ℕ
  times = times_at (as_of history n) plan

  start_given : (v : List Value) (level : ℕ) (p : Period) → IsRun times v level p → (start : ℕ) → p.start ≡ start → Contains (given_bounds history n plan) start
  start_given v level p run zero e = (0, omega arith, refl)
  start_given v level p run (suc s) e =
      let here : level ≤ times v (suc s) = run.inside (suc s) (omega arith) (omega (arith, p.ordered)) in
      let before : times v s < level = run.before s (omega arith) in
      changes_are_given history n plan v s (λ same. absurd (omega arith))

  end_given : (v : List Value) (level : ℕ) (p : Period) → IsRun times v level p → (end : ℕ) → p.end ≡ end → Contains (given_bounds history n plan) end
  end_given v level p run zero e = absurd (omega (arith, p.ordered))
  end_given v level p run (suc s) e =
      let here : level ≤ times v s = run.inside s (omega (arith, p.ordered)) (omega arith) in
      let after : times v (suc s) < level = ap_less run.after e in
      changes_are_given history n plan v s (λ same. absurd (omega arith))
    where
      ap_less : times v p.end < level → p.end ≡ suc s → times v (suc s) < level
      ap_less less same = let values : times v p.end ≡ times v (suc s) = ap (times v) same in omega arith

  runs_given : (rows : List Fragment) (levels : List ℕ) → AllZip (λ f level. IsRun times f.values level f.period) rows levels → All (IsBoundedBy (given_bounds history n plan)) rows
  runs_given [] levels runs = All-nil (IsBoundedBy (given_bounds history n plan))
  runs_given (f ∷ rows) [] runs = absurd runs
  runs_given (f ∷ rows) (level ∷ levels) runs =
      All-cons (IsBoundedBy (given_bounds history n plan)) f rows
      (start_given f.values level f.period runs.0 f.period.start refl, end_given f.values level f.period runs.0 f.period.end refl)
      (runs_given rows levels runs.1)

pub bounds_given : LayersAreRuns → BoundsAreGiven
bounds_given are_runs history n plan table is =
    let runs = are_runs (times_at (as_of history n) plan) table.rows is.layers in
    runs_given history n plan table.rows runs.levels runs.runs
