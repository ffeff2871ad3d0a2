-- The core machine's oracle. This project's own.
use Rattle.std.specs.Prelude.{◌≡◌, ℕ, List, length}
use Rattle.std.proofs.Common.{sym, ◌∙◌}
use Rattle.std.proofs.Props.{props}
use mathlib.Core.HLevel.{is_prop→PathP}
use Rattle.tq_base.specs.Layers.{LayersAreUnique}
use Rattle.tq_event.specs.declared.event.Event.{Event}
use Rattle.tq_table.specs.declared.table.Table.{Table}
use Rattle.tq_plan.specs.declared.plans.Plan.{Plan}
use Rattle.tq_exec.specs.Answers.{as_of, times_at, AnswersExist, IsPlanAnswer}

-- each plan has exactly one answer over every history, as of every count of its events
abbrev pub PlansHaveOneAnswer : Type 0
PlansHaveOneAnswer = LayersAreUnique × AnswersExist

-- the answer over these events: the only answer of the plan as of all of them
abbrev pub plain_answer : PlansHaveOneAnswer → List Event → Plan → Table
plain_answer one_answer events plan = (one_answer.1 events (length events) plan).0

-- ---- these facts have at most one proof, so an answer does not depend on it

unique_prop : IsProp LayersAreUnique
unique_prop = hlevel props

answer_prop : (events : List Event) (n : ℕ) (plan : Plan) (table : Table) → IsProp (IsPlanAnswer events n plan table)
answer_prop events n plan table = hlevel props

-- two answers of a plan are the same table
pub same_answer : LayersAreUnique → (events : List Event) (n : ℕ) (plan : Plan) (a b : Table) → IsPlanAnswer events n plan a → IsPlanAnswer events n plan b → a ≡ b
same_answer unique events n plan a b x y =
    let columns : a.columns ≡ b.columns = x.columns ∙ sym y.columns in
    let rows : a.rows ≡ b.rows = unique (times_at (as_of events n) plan) a.rows b.rows x.layers y.layers in
    λ i. record { columns = columns i; rows = rows i }

exist_prop : LayersAreUnique → IsProp AnswersExist
exist_prop unique one other = λ i. λ events n plan.
    let a = one events n plan in
    let b = other events n plan in
    let same : a.0 ≡ b.0 = same_answer unique events n plan a.0 b.0 a.1 b.1 in
    (same i, is_prop→PathP (λ j. IsPlanAnswer events n plan (same j)) (λ j. answer_prop events n plan (same j)) a.1 b.1 i)

pub one_answer_prop : IsProp PlansHaveOneAnswer
one_answer_prop one other = λ i. (unique_prop one.0 other.0 i, exist_prop one.0 one.1 other.1 i)
