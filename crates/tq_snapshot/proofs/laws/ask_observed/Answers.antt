use Rattle.std.proofs.Common.{ℕ, ◌≤◌, List, length, Result, Ok, Err, MatchResult}
use Rattle.std.specs.Prelude.{IfOk}
use Rattle.tq_base.specs.declared.catalogue.Catalogue.{Catalogue}
use Rattle.tq_event.specs.declared.event.Event.{Event}
use Rattle.tq_plan.specs.declared.plans.Plan.{Plan}
use Rattle.tq_table.specs.declared.table.Table.{Table}
use Rattle.tq_exec.specs.Answers.{IsPlanAnswer}
use Rattle.tq_snapshot.specs.Calls.{Answers}
use Rattle.tq_snapshot.specs.Laws.{ObservedAnswers}
use Rattle.tq_snapshot.proofs.laws.ask_observed.Goals as goal

known : {E : Type 0} (catalogue : Catalogue) (observed found : List Event) (n : ℕ) (plan : Plan) (F : E → Type 0) (r : Result Table E) → ObservedAnswers → n ≤ length observed
    → MatchResult r (λ table. Answers catalogue observed n plan found table) F → IfOk r (IsPlanAnswer observed n plan)
known catalogue observed found n plan F (Ok table) law le answers = law observed found n plan table answers.0.later le answers.2
known catalogue observed found n plan F (Err fault) law le answers = tt

pub returns-clause-answer : goal.returns-clause-answer
returns-clause-answer g c =
    known g.J.StoreId.catalogue c.args.reader.now c.ask.new.self c.args.n c.args.plan.now _ c.ask.result c.observed_answers.ensures c.requires.known c.ask.ensures
