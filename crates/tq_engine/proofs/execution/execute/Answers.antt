use Rattle.std.proofs.lemmas.Result.{IfErr-weaker, IfOk-weaker}
use Rattle.tq_engine.proofs.execution.execute.Goals as goal

pub returns-clause-answer : goal.returns-clause-answer
returns-clause-answer g c files bytes is_query =
    IfOk-weaker c.execute_statement.result _ _
    (λ table made.
    let (plan, planned, is) = made in
    c.query_is_answered.ensures.answered c.args.form files bytes c.args.query.now.tables c.args.query.now.statement plan table is_query planned is)
    c.execute_statement.ensures.answer

pub returns-clause-fault : goal.returns-clause-fault
returns-clause-fault g c files bytes is_query =
    IfErr-weaker c.execute_statement.result _ _
    (λ fault is. c.query_is_answered.ensures.refused c.args.form files bytes c.args.query.now.tables c.args.query.now.statement fault is_query is)
    c.execute_statement.ensures.fault
