use Rattle.std.proofs.Common.{refl, rules, subst, sym, ◌∙◌, IfErr}
use Rattle.std.proofs.lemmas.Result.{IfErr-weaker, err_from_is_err_and}
use Rattle.tq_engine.specs.Answers.{IsFault}
use Rattle.tq_engine.proofs.writing.write_observed.Goals as goal

pub returns-in_err-planned-clause-write : goal.returns-in_err-planned-clause-write
returns-in_err-planned-clause-write g c e =
    let p = err_from_is_err_and c.from_residual-in_err-planned.result c.from_residual-in_err-planned.ensures.1 in
    let is : IfErr c.from_residual-in_err-planned.result (IsFault c.args.options.form c.args.files.items c.args.bytes.now) =
    rw p.1 (subst (IsFault c.args.options.form c.args.files.items c.args.bytes.now) (sym p.2) (c.in_err-planned.ensures.fault c.args.files.items c.args.bytes.now c.in_ok-query.ensures.is_query)) in
    absurd (subst (λ r. IfErr r (IsFault c.args.options.form c.args.files.items c.args.bytes.now)) e is)

pub returns-in_err-planned-clause-failed : goal.returns-in_err-planned-clause-failed
returns-in_err-planned-clause-failed g c e =
    let p = err_from_is_err_and c.from_residual-in_err-planned.result c.from_residual-in_err-planned.ensures.1 in
    let is : IfErr c.from_residual-in_err-planned.result (IsFault c.args.options.form c.args.files.items c.args.bytes.now) =
    rw p.1 (subst (IsFault c.args.options.form c.args.files.items c.args.bytes.now) (sym p.2) (c.in_err-planned.ensures.fault c.args.files.items c.args.bytes.now c.in_ok-query.ensures.is_query)) in
    absurd (subst (λ r. IfErr r (IsFault c.args.options.form c.args.files.items c.args.bytes.now)) e is)

pub returns-in_err-planned-clause-fault : goal.returns-in_err-planned-clause-fault
returns-in_err-planned-clause-fault g c =
    let p = err_from_is_err_and c.from_residual-in_err-planned.result c.from_residual-in_err-planned.ensures.1 in
    let is : IfErr c.from_residual-in_err-planned.result (IsFault c.args.options.form c.args.files.items c.args.bytes.now) =
    rw p.1 (subst (IsFault c.args.options.form c.args.files.items c.args.bytes.now) (sym p.2) (c.in_err-planned.ensures.fault c.args.files.items c.args.bytes.now c.in_ok-query.ensures.is_query)) in
    IfErr-weaker c.from_residual-in_err-planned.result _ _ (λ fault f other. (f, refl)) is

pub returns-in-Ok-clause-answer : goal.returns-in-Ok-clause-answer
returns-in-Ok-clause-answer g c =
    let rendered = c.in_ok-planned.ensures.answer c.args.files.items c.args.bytes.now c.in_ok-query.ensures.is_query in
    let text = rendered.text in
    (rendered.table, rendered.is, search rules)

pub returns-in-Ok-clause-rows : goal.returns-in-Ok-clause-rows
returns-in-Ok-clause-rows g c =
    let rendered = c.in_ok-planned.ensures.answer c.args.files.items c.args.bytes.now c.in_ok-query.ensures.is_query in
    (rendered.table, rendered.is, rendered.rows)

pub returns-in-Err-clause-write : goal.returns-in-Err-clause-write
returns-in-Err-clause-write g c e =
    let rendered = c.in_ok-planned.ensures.answer c.args.files.items c.args.bytes.now c.in_ok-query.ensures.is_query in
    let (sent, unsent, split, appended) = c.in-Err.ensures.prefix in
    (rendered.table, rendered.is, (sent, unsent, sym (c.parts.ensures ∙ rendered.text) ∙ split, appended))

pub returns-in-Ok-clause-planned : goal.returns-in-Ok-clause-planned
returns-in-Ok-clause-planned g c = record {
  statement = c.in_ok-query.query.statement;
  is_query = c.in_ok-query.ensures.is_query;
  planned = c.in_ok-planned.ensures.plan;
}

pub returns-in-Ok-clause-over : goal.returns-in-Ok-clause-over
returns-in-Ok-clause-over g c = record { form = c.args.options.form; statement = c.in_ok-query.query.statement; planned = c.in_ok-planned.ensures.plan }
