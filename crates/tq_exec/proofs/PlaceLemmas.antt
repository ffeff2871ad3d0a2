-- Evaluated rows, and the ordinary statement.
use Rattle.std.proofs.Common.{◌≡◌, ℕ, ◌-◌, Bool, true, false, if◌then◌else◌, List, [], ◌∷◌, Result, Ok, Err, IfOk, Some, None, map, refl, sym, ap, ◌∙◌, arith}
use Rattle.std.specs.List.{list_any}
use Rattle.tq_base.specs.declared.fragment.Fragment.{Fragment}
use Rattle.tq_base.specs.declared.period.Period.{Period}
use Rattle.tq_base.specs.Fragments.{copies, occurrences}
use Rattle.tq_base.specs.Periods.{holds}
use Rattle.tq_base.specs.RowValues.{value_at}
use Rattle.tq_condition.specs.Ordinary.{HasInside, IsEmptyOutside, product_of, projection, selection}
use Rattle.tq_plan.specs.declared.plans.Output.{Output}
use Rattle.tq_plan.specs.declared.plans.Output.TheVariants.{Column, Count, Sum}
use Rattle.tq_plan.specs.declared.plans.Plan.{Plan}
use Rattle.tq_plan.specs.declared.plans.QueryPlan.{QueryPlan}
use Rattle.tq_plan.specs.Plans.{tables_of}
use Rattle.tq_exec.specs.Answers.{lists_at, times_in, times_in_right, times_within, ValidRows}
use Rattle.tq_agg.specs.Grouping.{Row}
use Rattle.tq_exec.specs.Ordinary.{groups, ordinary, output_value}
use Rattle.tq_plan.specs.ValidPlans.{is_aggregate, no_group}
use Rattle.tq_exec.specs.OutputPlaces.{output_place}

-- ---- queries with no group, count or sum

row_alone : (row : Row) (outputs : List Output) → list_any is_aggregate outputs ≡ false → map (output_value (row ∷ [])) outputs ≡ projection (map output_place outputs) row
row_alone row [] none = refl
row_alone row (Column place ∷ outputs) none = ap (λ l. value_at row place ∷ l) (row_alone row outputs none)
row_alone row (Count ∷ outputs) none = cc
row_alone row (Sum place ∷ outputs) none = cc

rows_alone : (rows : List Row) (outputs : List Output) → list_any is_aggregate outputs ≡ false
    → map (λ group. map (output_value group) outputs) (map (λ row. row ∷ []) rows) ≡ map (projection (map output_place outputs)) rows
rows_alone [] outputs none = refl
rows_alone (row ∷ rows) outputs none = λ i. row_alone row outputs none i ∷ rows_alone rows outputs none i

-- each row by itself
pub ordinary_alone : (query : QueryPlan) (lists : List (List Row)) → query.group ≡ [] → list_any is_aggregate query.outputs ≡ false
    → ordinary query lists ≡ map (projection (map output_place query.outputs)) (selection query.test (product_of lists))
ordinary_alone query lists no_group none =
    ap (λ g. map (λ group. map (output_value group) query.outputs) (groups g query.outputs (selection query.test (product_of lists)))) no_group
    ∙ rw none (rows_alone (selection query.test (product_of lists)) query.outputs none)

pub no_places : (group : List ℕ) → no_group group ≡ true → group ≡ []
no_places [] none = refl
no_places (first ∷ more) none = cc

-- the values at the items' places of all rows that pass
pub shown_alone : (valid : ValidRows) (query : QueryPlan) (window : Period) (places : List ℕ) (out : List Fragment) → no_group query.group ≡ true → list_any is_aggregate query.outputs ≡ false → places ≡ map output_place query.outputs
    → HasInside window out (λ t v. occurrences (map (projection places) (selection query.test (product_of (lists_at valid t (tables_of query))))) v)
    → HasInside window out (λ t v. times_in valid query v t)
shown_alone valid query window places out alone none same shown t v inside =
    shown t v inside
    ∙ ap (λ ps. occurrences (map (projection ps) (selection query.test (product_of (lists_at valid t (tables_of query))))) v) same
    ∙ ap (λ l. occurrences l v) (sym (ordinary_alone query (lists_at valid t (tables_of query)) (no_places query.group alone) none))

-- ---- plans

-- inside the window as the count says, and nothing outside
pub by_window : (window : Period) (out : List Fragment) (count : ℕ → Row → ℕ) → HasInside window out count → IsEmptyOutside window out → (v : Row) (t : ℕ)
    → copies out v t ≡ (if holds window t then count t v else 0)
by_window window out count inside outside v t = by_time (holds window t) refl
  where
    by_time : (b : Bool) → holds window t ≡ b → copies out v t ≡ (if b then count t v else 0)
    by_time true is = inside t v is
    by_time false is = ap (λ l. occurrences l v) (outside t is)

pub left_alone : (valid : ValidRows) (plan : Plan) (period : Period) (out : List Fragment) → plan.right ≡ None → HasInside period out (λ t v. times_in valid plan.left v t) → IsEmptyOutside period out
    → (v : Row) (t : ℕ) → copies out v t ≡ times_within valid plan period v t
left_alone valid plan period out none inside outside v t =
    by_window period out (λ t v. times_in valid plan.left v t) inside outside v t
    ∙ ap (λ n. if holds period t then n else 0)
    (let less : times_in valid plan.left v t ≡ times_in valid plan.left v t - 0 = omega arith in
    less ∙ ap (λ r. times_in valid plan.left v t - times_in_right valid r v t) (sym none))

pub left_less_right : (valid : ValidRows) (plan : Plan) (period : Period) (query : QueryPlan) (left right out : List Fragment) → plan.right ≡ Some query
    → HasInside period left (λ t v. times_in valid plan.left v t) → HasInside period right (λ t v. times_in valid query v t)
    → HasInside period out (λ t v. copies left v t - copies right v t) → IsEmptyOutside period out
    → (v : Row) (t : ℕ) → copies out v t ≡ times_within valid plan period v t
left_less_right valid plan period query left right out some on_left on_right inside outside v t = by_time (holds period t) refl
  where
    by_time : (b : Bool) → holds period t ≡ b → copies out v t ≡ times_within valid plan period v t
    by_time true is =
        rw is (inside t v is
        ∙ ap (λ n. n - copies right v t) (on_left t v is)
        ∙ ap (λ n. times_in valid plan.left v t - n) (on_right t v is)
        ∙ ap (λ r. times_in valid plan.left v t - times_in_right valid r v t) (sym some))
    by_time false is = rw is (ap (λ l. occurrences l v) (outside t is))

-- ---- what a call gives

pub if_ok_both : {A E : Type 0} (r : Result A E) (P Q : A → Type 0) → IfOk r P → IfOk r Q → IfOk r (λ a. P a × Q a)
if_ok_both (Ok a) P Q p q = (p, q)
if_ok_both (Err e) P Q p q = tt
