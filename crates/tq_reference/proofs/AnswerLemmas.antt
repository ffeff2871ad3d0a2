-- The number of copies of a row in a plan's answer at an instant of its window.
use Rattle.std.proofs.Common.{◌≡◌, ℕ, ◌-◌, true, List, Some, None, refl, ap, arith}
use Rattle.tq_base.specs.Fragments.{occurrences}
use Rattle.tq_base.specs.Periods.{holds}
use Rattle.tq_event.specs.declared.event.Event.{Event}
use Rattle.tq_plan.specs.Plans.{tables_of}
use Rattle.tq_agg.specs.Grouping.{Row}
use Rattle.tq_plan.specs.declared.plans.Plan.{Plan}
use Rattle.tq_plan.specs.declared.plans.QueryPlan.{QueryPlan}
use Rattle.tq_exec.specs.Answers.{as_of, lists_at, times_at, times_in, times_in_right}
use Rattle.tq_exec.specs.Ordinary.{ordinary}

times_inside : (history : List Event) (n : ℕ) (plan : Plan) (v : Row) (t : ℕ) → holds plan.window t ≡ true → times_at (as_of history n) plan v t ≡ times_in (as_of history n) plan.left v t - times_in_right (as_of history n) plan.right v t
times_inside history n plan v t inside = rw inside refl

-- if there is no right query
pub times_alone : (history : List Event) (n : ℕ) (plan : Plan) (v : Row) (t : ℕ) (rows : List Row)
    → holds plan.window t ≡ true → plan.right ≡ None → rows ≡ ordinary plan.left (lists_at (as_of history n) t (tables_of plan.left))
    → occurrences rows v ≡ times_at (as_of history n) plan v t
times_alone history n plan v t rows inside none left =
    omega (arith, ap (λ l. occurrences l v) left, times_inside history n plan v t inside, ap (λ right. times_in_right (as_of history n) right v t) none)

-- if there is a right query
pub times_less : (history : List Event) (n : ℕ) (plan : Plan) (v : Row) (t : ℕ) (right : QueryPlan) (rows first last : List Row)
    → holds plan.window t ≡ true → plan.right ≡ Some right
    → first ≡ ordinary plan.left (lists_at (as_of history n) t (tables_of plan.left)) → last ≡ ordinary right (lists_at (as_of history n) t (tables_of right))
    → occurrences rows v ≡ occurrences first v - occurrences last v → occurrences rows v ≡ times_at (as_of history n) plan v t
times_less history n plan v t right rows first last inside some left others less =
    omega (arith, less, ap (λ l. occurrences l v) left, ap (λ l. occurrences l v) others, times_inside history n plan v t inside, ap (λ r. times_in_right (as_of history n) r v t) some)
