-- Windows that are written in dates.
use Rattle.std.proofs.Common.{◌≡◌, ℕ, ◌+◌, ◌≤◌, Bool, true, false, cond, List, Option, Some, None, Ok, drop, take, nat_lt, refl, ap, ◌∙◌, subst, arith, inr}
use Rattle.tq_base.specs.Numbers.{bound_of, instant_of, DatesRoundTrip, IsDated}
use Rattle.tq_base.specs.declared.dates.TheConstants.{LAST_DAY}
use Rattle.tq_base.specs.declared.form.Form.TheVariants.{Dates}
use Rattle.tq_base.specs.declared.period.Period.{Period}
use Rattle.tq_plan.specs.ValidPlans.{WindowsAreDated}
use Rattle.tq_plan.specs.Windows.{always, around_dash, between, dash_after, dashed_bytes, without_leading_spaces, inside_of, is_bracketed, ordered_if, period_in, trimmed, window_of, window_or_fault, window_plan}
use Rattle.tq_plan.proofs.PlanLemmas.{window_is}

-- the period begins at a day that has a date, and ends at one or never
abbrev Dated : Period → Type 0
Dated p = (p.start ≤ LAST_DAY) × IsDated p.end

ordered_is : (start end : ℕ) (b : Bool) (e : nat_lt start end ≡ b) (p : Period) → ordered_if start end b e ≡ Some p → (start ≡ p.start) × (end ≡ p.end)
ordered_is start end true e p is =
    (ap (λ (o : Option Period). start_of o) is, ap (λ (o : Option Period). end_of o) is)
  where
    start_of : Option Period → ℕ
    start_of None = start
    start_of (Some q) = q.start

    end_of : Option Period → ℕ
    end_of None = end
    end_of (Some q) = q.end
ordered_is start end false e p is = absurd cc

between_is : (a b : Option ℕ) (p : Period) → between a b ≡ Some p → (a ≡ Some p.start) × (b ≡ Some p.end)
between_is None b p is = absurd cc
between_is (Some start) None p is = absurd cc
between_is (Some start) (Some end) p is =
    let ends = ordered_is start end (nat_lt start end) refl p is in
    (ap Some ends.0, ap Some ends.1)

inside_dated : DatesRoundTrip → (inside : List ℕ) (dash : Option ℕ) (p : Period) → around_dash Dates inside dash ≡ Some p → Dated p
inside_dated told inside None p is = absurd cc
inside_dated told inside (Some dash) p is =
    let ends = between_is (instant_of Dates (trimmed (take dash inside))) (bound_of Dates (trimmed (drop (dash + 1) inside))) p is in
    ((told.1 (trimmed (take dash inside)) p.start ends.0).0, told.2 (trimmed (drop (dash + 1) inside)) p.end ends.1)

window_dated : DatesRoundTrip → (text : List ℕ) (p : Period) → window_of Dates text ≡ Some p → Dated p
window_dated told text p is = by (is_bracketed text) is
  where
    by : (b : Bool) → cond b (period_in Dates (without_leading_spaces (inside_of text))) None ≡ Some p → Dated p
    by true e = inside_dated told (without_leading_spaces (inside_of text)) (dash_after (dashed_bytes Dates) (without_leading_spaces (inside_of text))) p e
    by false e = absurd cc

plan_dated : DatesRoundTrip → (text : Option (List ℕ)) (p : Period) → window_plan Dates text ≡ Ok p → Dated p
plan_dated told None p is =
    let same : always ≡ p = cc in
    subst Dated same (omega arith, inr refl)
plan_dated told (Some text) p is = by (window_of Dates text) refl is
  where
    by : (o : Option Period) → window_of Dates text ≡ o → window_or_fault o ≡ Ok p → Dated p
    by None e i = absurd cc
    by (Some q) e i = let same : q ≡ p = cc in window_dated told text p (e ∙ ap Some same)

pub windows_dated : DatesRoundTrip → WindowsAreDated
windows_dated told catalogue statement plan is = plan_dated told statement.window plan.window (window_is Dates catalogue statement plan is)
