use Rattle.tq_engine.proofs.LoadedQueryLemmas.{answers_asked, faults_asked}
use Rattle.tq_engine.proofs.laws.query_is_answered.Goals as goal

pub returns-clause-answered : goal.returns-clause-answered
returns-clause-answered c =
    answers_asked c.tables_are_loaded.ensures c.loaded_is_history.ensures c.held_rows_fit.ensures c.queries_are_valid.ensures c.projected_tables_answer.ensures c.tables_answer.ensures

pub returns-clause-refused : goal.returns-clause-refused
returns-clause-refused c = faults_asked c.tables_are_loaded.ensures
