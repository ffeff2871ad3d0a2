use Rattle.std.proofs.Common.{◌≡◌, ◌<◌, ℕ, arith, subst}
use Rattle.std.specs.Prelude.{Ok}
use Rattle.tq_base.specs.declared.catalogue.Catalogue.{Catalogue}
use Rattle.tq_plan.specs.Plans.{plan_of}
use Rattle.tq_session.proofs.AskLemmas.{asks_told, planned_of, prefix_of_prefix}
use Rattle.tq_session.proofs.query.ask.Goals as goal

pub returns-then-published-n-clause-reply : goal.returns-then-published-n-clause-reply
returns-then-published-n-clause-reply g c = λ events count begins.
    (planned_of c.args.options.form _ _ _ c.in-Ok.plan c.requires.catalogue c.in-Ok.ensures, count, subst (λ (k : ℕ). k < c.args.options.n) count c.if-published-n.true)

pub returns-in-Ok-text_with-clause-reply : goal.returns-in-Ok-text_with-clause-reply
returns-in-Ok-text_with-clause-reply g c = λ events count begins.
    let found = c.text_with.new.self in
    let (entered, within, rendered) = c.in-Ok-text_with.ensures in
    let statement = c.in-Ok.ensures.statement in
    asks_told c.args.options.form g.J.StoreId.catalogue events c.args.options.n c.args.bytes.now c.in-Ok-text_with.answer statement (omega (arith, count, c.if-published-n.false)) c.in-Ok.ensures.makes
    (record {
      table = rendered.table;
      is = record {
        plan = c.in-Ok.plan;
        planned = subst (λ (k : Catalogue). plan_of c.args.options.form k statement ≡ Ok c.in-Ok.plan) c.requires.catalogue c.in-Ok.ensures.planned;
        is_answer = c.observed_answers.ensures events found c.args.options.n c.in-Ok.plan rendered.table (prefix_of_prefix events c.args.reader.now found begins entered.later)
            (omega (arith, count, c.if-published-n.false)) rendered.is;
      };
      rows = rendered.rows;
      text = rendered.text;
    })

pub returns-in-Err-TooNew-clause-reply : goal.returns-in-Err-TooNew-clause-reply
returns-in-Err-TooNew-clause-reply g c = λ events count begins.
    (planned_of c.args.options.form _ _ _ c.in-Ok.plan c.requires.catalogue c.in-Ok.ensures, omega (arith, count, c.if-published-n.false))
