-- The bounds of answers over files in dates.
use Rattle.std.proofs.Common.{ℕ, suc, zero, ◌≤◌, List, [], ◌∷◌, length, map, take, arith, inl, inr, refl, subst}
use Rattle.std.specs.Prelude.{All, Contains}
use Rattle.std.proofs.lemmas.List.Elements.{All-nil, All-cons, All-head, All-tail, All-weaker}
use Rattle.tq_base.specs.declared.dates.TheConstants.{LAST_DAY}
use Rattle.tq_base.specs.declared.fragment.Fragment.{Fragment}
use Rattle.tq_base.specs.declared.period.TheConstants.{FOREVER}
use Rattle.tq_base.specs.Numbers.{IsDated}
use Rattle.tq_event.specs.declared.event.Event.{Event}
use Rattle.tq_event.specs.History.{time_of}
use Rattle.tq_event.specs.Laws.{LoadedAreDated}
use Rattle.tq_exec.specs.Bounds.{given_bounds, BoundsAreGiven, IsBoundedBy}
use Rattle.tq_plan.specs.ValidPlans.{WindowsAreDated}
use Rattle.tq_engine.specs.Answers.{AnswersAreDated}

times_dated : (n : ℕ) (events : List Event) → All (λ e. time_of e ≤ LAST_DAY) events → All IsDated (map time_of (take n events))
times_dated zero events all = All-nil IsDated
times_dated (suc n) [] all = All-nil IsDated
times_dated (suc n) (e ∷ events) all =
    All-cons IsDated (time_of e) (map time_of (take n events)) (inl (All-head (λ x. time_of x ≤ LAST_DAY) e events all))
    (times_dated n events (All-tail (λ x. time_of x ≤ LAST_DAY) e events all))

contained : (bounds : List ℕ) (b : ℕ) → All IsDated bounds → Contains bounds b → IsDated b
contained bounds b all (k, less, is) = subst IsDated is (all k b less)

pub answers_dated : BoundsAreGiven → LoadedAreDated → WindowsAreDated → AnswersAreDated
answers_dated given loaded_dated windows_dated files bytes table has =
    let answer = has.is_answer in
    let history = has.loaded.events in
    let n = length history in
    let plan = answer.plan in
    let window = windows_dated has.loaded.catalogue has.statement plan answer.planned in
    let times = map time_of (take n history) in
    let times_are = times_dated n history (loaded_dated files 16777216 has.loaded has.is_loaded) in
    let ends_are = All-cons IsDated plan.window.end times window.1 times_are in
    let windows_are = All-cons IsDated plan.window.start (plan.window.end ∷ times) (inl window.0) ends_are in
    let last_are = All-cons IsDated FOREVER (plan.window.start ∷ plan.window.end ∷ times) (inr refl) windows_are in
    let dated : All IsDated (given_bounds history n plan) = All-cons IsDated 0 (FOREVER ∷ plan.window.start ∷ plan.window.end ∷ times) (inl (omega arith)) last_are in
    All-weaker (IsBoundedBy (given_bounds history n plan)) (λ (row : Fragment). IsDated row.period.start × IsDated row.period.end)
    (λ row bounds. (contained (given_bounds history n plan) row.period.start dated bounds.0, contained (given_bounds history n plan) row.period.end dated bounds.1))
    table.rows (given history n plan table answer.is_answer)
