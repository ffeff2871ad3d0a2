use Rattle.std.proofs.lemmas.Result.{IfErr-weaker, IfOk-weaker}
use Rattle.tq_engine.proofs.execution.render.Goals as goal

pub returns-clause-plan : goal.returns-clause-plan
returns-clause-plan g c = IfOk-weaker c.render_statement.result _ _ (λ found made. made.0) c.render_statement.ensures.answer

pub returns-clause-answer : goal.returns-clause-answer
returns-clause-answer g c files bytes is_query =
    IfOk-weaker c.render_statement.result _ _
    (λ found made.
    let (planned, rendered) = made in
    record {
      table = rendered.table;
      is = c.query_is_answered.ensures.answered c.args.form files bytes c.args.query.now.tables c.args.query.now.statement found.plan rendered.table is_query planned rendered.is;
      rows = rendered.rows;
      text = rendered.text;
    })
    c.render_statement.ensures.answer

pub returns-clause-fault : goal.returns-clause-fault
returns-clause-fault g c files bytes is_query =
    IfErr-weaker c.render_statement.result _ _
    (λ fault is. c.query_is_answered.ensures.refused c.args.form files bytes c.args.query.now.tables c.args.query.now.statement fault is_query is)
    c.render_statement.ensures.fault
