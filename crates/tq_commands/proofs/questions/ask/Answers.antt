use Rattle.std.proofs.Common.{ℕ, Err, List, ap, inl, inr, subst}
use Rattle.std.proofs.lemmas.Result.{err_from_is_err_and}
use Rattle.tq_engine.specs.Answers.{HasAnswer, IsFault}
use Rattle.tq_commands.proofs.questions.ask.Goals as goal

pub returns-in_err-tables-clause-refused : goal.returns-in_err-tables-clause-refused
returns-in_err-tables-clause-refused g c =
    let fault = err_from_is_err_and c.from_residual-in_err-tables.result c.from_residual-in_err-tables.ensures.1 in
    rw (fault.1, fault.2) (λ known. inl (c.in_err-tables.ensures.refused known))

pub returns-in-Ok-clause-answered : goal.returns-in-Ok-clause-answered
returns-in-Ok-clause-answered g c =
    let form = c.args.request.form in
    let files = c.in_ok-tables.tables.items in
    let answer = c.in-Ok.ensures.answer in (
      answer.0,
      record {
        files = files;
        named = c.in_ok-tables.ensures.tables;
        answer = subst (λ (s : List ℕ). HasAnswer form files s answer.0) c.deref-5.ensures.value answer.1;
      },
    )

pub returns-clause-refused : goal.returns-clause-refused
returns-clause-refused g c =
    let form = c.args.request.form in
    let files = c.in_ok-tables.tables.items in
    λ known. inr record {
      files = files;
      named = c.in_ok-tables.ensures.tables;
      fault = c.in-Err.fault;
      first = λ other. subst (λ (s : List ℕ). IsFault form files s c.in-Err.fault) c.deref-5.ensures.value (c.in-Err.ensures.fault other).0;
      written = λ is.
          let answer = c.in-Err.ensures.write (ap Err is) in (answer.0, subst (λ (s : List ℕ). HasAnswer form files s answer.0) c.deref-5.ensures.value answer.1);
      reported = c.refused-diagnostic.ensures.refusal;
    }
