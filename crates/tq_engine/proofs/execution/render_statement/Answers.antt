use Rattle.std.proofs.Common.{List, sym, subst}
use Rattle.tq_base.specs.RowLists.{RowList}
use Rattle.tq_event.specs.Tables.{lists_of}
use Rattle.tq_exec.specs.Answers.{IsTablesAnswer}
use Rattle.tq_exec.specs.Fitting.{AreAllFitting}
use Rattle.tq_exec.specs.Rendered.{IsRendered}
use Rattle.tq_engine.proofs.execution.render_statement.Goals as goal

pub returns-clause-answer : goal.returns-clause-answer
returns-clause-answer g c = (
  c.in_ok-plan.ensures.plan,
  subst (λ (tables : List RowList). IsRendered c.args.form (IsTablesAnswer (lists_of tables) c.in_ok-plan.plan) c.in_ok-answer.answer) c.get.ensures c.in_ok-answer.ensures,
)

pub invariant_of-all : goal.invariant_of-all
invariant_of-all g c = record { fit = subst (λ (tables : List RowList). AreAllFitting c.args.tables.now.catalogue (lists_of tables)) (sym c.get.ensures) c.requires.fit }

pub render-requires-clause-plan : goal.render-requires-clause-plan
render-requires-clause-plan g c κs within = record { form = c.args.form; statement = c.args.statement.now; planned = c.in_ok-plan.ensures.plan }
