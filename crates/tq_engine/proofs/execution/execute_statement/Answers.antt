use Rattle.std.proofs.Common.{List, sym, subst}
use Rattle.tq_base.specs.RowLists.{RowList}
use Rattle.tq_event.specs.Tables.{lists_of}
use Rattle.tq_exec.specs.Answers.{IsTablesAnswer}
use Rattle.tq_exec.specs.Fitting.{AreAllFitting}
use Rattle.tq_engine.proofs.execution.execute_statement.Goals as goal

pub returns-clause-answer : goal.returns-clause-answer
returns-clause-answer g c = (
  c.in_ok-plan.plan,
  c.in_ok-plan.ensures.plan,
  subst (λ (tables : List RowList). IsTablesAnswer (lists_of tables) c.in_ok-plan.plan c.in_ok-table.table) c.get-rows.ensures c.in_ok-table.ensures,
)

pub answer_among-requires-clause-fit : goal.answer_among-requires-clause-fit
answer_among-requires-clause-fit g c κs within = subst (λ (tables : List RowList). AreAllFitting c.args.tables.now.catalogue (lists_of tables)) (sym c.get-rows.ensures) c.requires.fit

pub answer_among-requires-clause-plan : goal.answer_among-requires-clause-plan
answer_among-requires-clause-plan g c κs within = record { form = c.args.form; statement = c.args.statement.now; planned = c.in_ok-plan.ensures.plan }
