use Rattle.std.proofs.Common.{List, sym, subst}
use Rattle.tq_base.specs.RowLists.{RowList}
use Rattle.tq_base.specs.declared.form.Form.TheVariants.{Numbers}
use Rattle.tq_event.specs.Tables.{lists_of}
use Rattle.tq_exec.specs.Fitting.{AreAllFitting}
use Rattle.tq_tests_execution.proofs.tables.answered.Goals as goal

pub answer_tables-requires-clause-fit : goal.answer_tables-requires-clause-fit
answer_tables-requires-clause-fit c = subst (λ (tables : List RowList). AreAllFitting c.args.tables.now.catalogue (lists_of tables)) (sym c.get.ensures) c.requires

pub answer_tables-requires-clause-plan : goal.answer_tables-requires-clause-plan
answer_tables-requires-clause-plan c = record { form = Numbers; statement = c.in_ok-read.field-0; planned = c.in_ok-plan.ensures.plan }
