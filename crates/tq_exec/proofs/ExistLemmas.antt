-- Each plan has an answer: its rows at each instant, coalesced.
use Rattle.std.proofs.Common.{◌≡◌, ◌+◌, ◌-◌, ℕ, zero, suc, Bool, true, false, cond, List, [], ◌∷◌, ◌++◌, Option, Some, None, map, sym, ap, ◌∙◌, arith, refl}
use Rattle.std.specs.Prelude.{◌&&◌, nat_le, nat_lt, sum_by}
use Rattle.std.specs.Ordering.{eq_by_cmp}
use Rattle.std.proofs.lemmas.Bool.Decides.{nat_tests}
use Rattle.std.proofs.lemmas.List.Sums.{sum_by-cons}
use Rattle.tq_base.specs.declared.fragment.Fragment.{Fragment}
use Rattle.tq_base.specs.declared.period.Period.{Period}
use Rattle.tq_base.specs.ValueOrder.{values_cmp, same_from_eq}
use Rattle.tq_base.specs.Copies.{tally, copies-append, copies-sum_by}
use Rattle.tq_base.specs.Fragments.{copies, fragment_of, occurrences}
use Rattle.tq_base.specs.Layers.{IsLayers, LayersExist}
use Rattle.tq_base.specs.Periods.{holds}
use Rattle.tq_event.specs.declared.event.Event.{Event}
use Rattle.tq_table.specs.declared.table.Table.{Table}
use Rattle.tq_plan.specs.declared.plans.Plan.{Plan}
use Rattle.tq_plan.specs.declared.plans.QueryPlan.{QueryPlan}
use Rattle.tq_plan.specs.Plans.{tables_of}
use Rattle.tq_exec.specs.Answers.{as_of, lists_at, times_at, times_in, times_in_right, IsPlanAnswer}
use Rattle.tq_agg.specs.Grouping.{Row}
use Rattle.tq_exec.specs.Ordinary.{ordinary}
use Rattle.tq_exec.proofs.BagLemmas.{is_it, one_if, split, sum_middle}

-- ---- a list less another

-- rows that stand as often as in the one list, less the times in the other
pub record Less (a b : List Row) : Type 0 where
  pub rows : List Row
  pub counted : (v : Row) → occurrences rows v ≡ occurrences a v - occurrences b v

-- a row that does not stand in the list takes nothing away
none_taken : (a b : List Row) (row : Row) → occurrences a row ≡ 0 → (v : Row) → occurrences a v - occurrences b v ≡ occurrences a v - occurrences (row ∷ b) v
none_taken a b row none v = by_same (eq_by_cmp values_cmp row v) refl
  where
    by_same : (same : Bool) → eq_by_cmp values_cmp row v ≡ same → occurrences a v - occurrences b v ≡ occurrences a v - occurrences (row ∷ b) v
    by_same true e = omega (arith, none, ap (occurrences a) (same_from_eq row v e))
    by_same false e = omega (arith, sum_by-cons (is_it v) row b, ap one_if e)

pub less : (a b : List Row) → Less a b
less a [] = record { rows = a; counted = λ v. omega arith }
less a (row ∷ b) = by_count (λ l. less l b) (occurrences a row) refl
  where
    by_count : ((l : List Row) → Less l b) → (count : ℕ) → occurrences a row ≡ count → Less a (row ∷ b)
    by_count again zero e = record { rows = (again a).rows; counted = λ v. (again a).counted v ∙ none_taken a b row e v }
    by_count again (suc count) e =
        let s = split a row (omega (arith, e)) in
        let rest = again (s.before ++ s.after) in
        record {
          rows = rest.rows;
          counted = λ v. omega (arith, rest.counted v, sum_by-cons (is_it v) row b, ap (λ l. occurrences l v) s.is, sum_middle (is_it v) s.before s.after row);
        }

-- ---- rows instant by instant

abbrev one_instant : ℕ → Period
one_instant t = record { start = t; end = t + 1; ordered = omega arith }

-- rows of one period
tallies : (p : Period) (rows : List Row) (v : Row) (t : ℕ) → sum_by (tally v t) (map (λ u. fragment_of (u, p)) rows) ≡ cond (holds p t) (occurrences rows v) 0
tallies p [] v t = nothing (holds p t)
  where
    nothing : (b : Bool) → let none : ℕ = 0 in none ≡ cond b none none
    nothing true = refl
    nothing false = refl
tallies p (u ∷ rows) v t =
    sum_by-cons (tally v t) (fragment_of (u, p)) (map (λ u. fragment_of (u, p)) rows)
    ∙ ap (λ n. cond (holds p t) (one_if (eq_by_cmp values_cmp u v)) 0 + n) (tallies p rows v t)
    ∙ both (holds p t)
  where
    both : (b : Bool) → cond b (one_if (eq_by_cmp values_cmp u v)) 0 + cond b (occurrences rows v) 0 ≡ cond b (occurrences (u ∷ rows) v) 0
    both true = sym (sum_by-cons (is_it v) u rows)
    both false = refl

-- the rows of so many instants from a first one on, each valid at its instant
abbrev fragments_from : (ℕ → List Row) → ℕ → ℕ → List Fragment
fragments_from rows zero start = []
fragments_from rows (suc count) start =
    map (λ u. fragment_of (u, one_instant start)) (rows start) ++ fragments_from rows count (start + 1)

abbrev spans : ℕ → ℕ → ℕ → Bool
spans start count t = nat_le start t && nat_lt t (start + count)

spans-none : (start t : ℕ) → spans start 0 t ≡ false
spans-none start t = grind (arith, nat_tests)

-- the rows of the first instant are those at it
first_counted : (a : ℕ → ℕ) (start t : ℕ) → cond (holds (one_instant start) t) (a start) 0 ≡ cond (spans start 1 t) (a t) 0
first_counted a start t = by_test (spans start 1 t) refl
  where
    by_test : (b : Bool) → spans start 1 t ≡ b → cond b (a start) 0 ≡ cond b (a t) 0
    by_test true e =
        let same : start ≡ t = grind (arith, nat_tests) in
        ap a same
    by_test false e = refl

next_counted : (start count t n : ℕ) → cond (spans start 1 t) n 0 + cond (spans (start + 1) count t) n 0 ≡ cond (spans start (suc count) t) n 0
next_counted start count t n = grind (arith, nat_tests)

counted_from : (rows : ℕ → List Row) (count start : ℕ) (v : Row) (t : ℕ) → copies (fragments_from rows count start) v t ≡ cond (spans start count t) (occurrences (rows t) v) 0
counted_from rows zero start v t = ap (λ b. let none : ℕ = 0 in cond b (occurrences (rows t) v) none) (sym (spans-none start t))
counted_from rows (suc count) start v t =
    let here = map (λ u. fragment_of (u, one_instant start)) (rows start) in
    let later = fragments_from rows count (start + 1) in
    let first = first_counted (λ s. occurrences (rows s) v) start t in
    let both = next_counted start count t (occurrences (rows t) v) in
    omega (arith, copies-append here later v t, copies-sum_by here v t, tallies (one_instant start) (rows start) v t, first, counted_from rows count (start + 1) v t, both)

spans-window : (p : Period) (t : ℕ) → spans p.start (p.end - p.start) t ≡ holds p t
spans-window p t = grind (arith, nat_tests)

-- ---- the answer of a plan

abbrev right_rows : List Event → ℕ → Option QueryPlan → ℕ → List Row
right_rows history n None t = []
right_rows history n (Some query) t = ordinary query (lists_at (as_of history n) t (tables_of query))

right_counted : (history : List Event) (n : ℕ) (query : Option QueryPlan) (v : Row) (t : ℕ) → occurrences (right_rows history n query t) v ≡ times_in_right (as_of history n) query v t
right_counted history n None v t = refl
right_counted history n (Some query) v t = refl

-- where the rows of each instant are told, their layers are the answer
from_rows : LayersExist → (history : List Event) (n : ℕ) (plan : Plan) (rows : ℕ → List Row) → ((v : Row) (t : ℕ) → occurrences (rows t) v ≡ times_in (as_of history n) plan.left v t - times_in_right (as_of history n) plan.right v t)
    → (table : Table) × IsPlanAnswer history n plan table
from_rows layers history n plan rows right =
    let fragments : List Fragment = fragments_from rows (plan.window.end - plan.window.start) plan.window.start in
    let made : (table : List Fragment) × IsLayers (copies fragments) table = layers fragments in
    let counted : (v : Row) (t : ℕ) → copies fragments v t ≡ times_at (as_of history n) plan v t =
    λ v t. counted_from rows (plan.window.end - plan.window.start) plan.window.start v t
    ∙ ap (λ b. cond b (occurrences (rows t) v) 0) (spans-window plan.window t)
    ∙ ap (λ k. cond (holds plan.window t) k 0) (right v t) in (
      record { columns = plan.columns; rows = made.0 },
      record {
        columns = refl;
        layers = record { ordered = made.1.ordered; coalesced = made.1.coalesced; counted = λ v t. made.1.counted v t ∙ counted v t };
      },
    )

pub answer_exists : LayersExist → (history : List Event) (n : ℕ) (plan : Plan) → (table : Table) × IsPlanAnswer history n plan table
answer_exists layers history n plan =
    let left : ℕ → List Row = λ t. ordinary plan.left (lists_at (as_of history n) t (tables_of plan.left)) in
    let right : ℕ → List Row = right_rows history n plan.right in
    from_rows layers history n plan (λ t. (less (left t) (right t)).rows)
    (λ v t. (less (left t) (right t)).counted v ∙ ap (λ k. times_in (as_of history n) plan.left v t - k) (right_counted history n plan.right v t))
