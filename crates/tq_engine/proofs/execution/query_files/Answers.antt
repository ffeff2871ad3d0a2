use Rattle.std.proofs.Common.{sym, subst}
use Rattle.std.proofs.lemmas.Result.{err_from_is_err_and}
use Rattle.tq_engine.specs.Answers.{HasAnswer, IsFault}
use Rattle.tq_engine.proofs.execution.query_files.Goals as goal

pub returns-in_err-table-clause-fault : goal.returns-in_err-table-clause-fault
returns-in_err-table-clause-fault g c =
    let p = err_from_is_err_and c.from_residual-in_err-table.result c.from_residual-in_err-table.ensures.1 in
    rw p.1 (subst (IsFault c.args.form c.args.files.items c.args.bytes.now) (sym p.2) (c.in_err-table.ensures.fault c.args.files.items c.args.bytes.now c.in_ok-query.ensures.is_query))

pub returns-clause-answer : goal.returns-clause-answer
returns-clause-answer g c =
    subst (HasAnswer c.args.form c.args.files.items c.args.bytes.now) (sym c.in_ok-to_owned.ensures)
    (c.in_ok-table.ensures.answer c.args.files.items c.args.bytes.now c.in_ok-query.ensures.is_query)
