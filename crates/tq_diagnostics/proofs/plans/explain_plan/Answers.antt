use Rattle.std.proofs.Common.{subst}
use Rattle.tq_diagnostics.specs.PlanDetails.{IsRead}
use Rattle.tq_diagnostics.proofs.StatementLemmas.{detail_is}
use Rattle.tq_diagnostics.proofs.plans.explain_plan.Goals as goal

pub returns-in_default : goal.returns-in_default
returns-in_default c = λ statement makes. absurd ((subst (λ read. IsRead c.args.bytes.now read) c.in_default.is c.in_ok-statement.ensures) statement makes)

pub returns : goal.returns
returns c = detail_is c.statements_are_unique.ensures c.args.form c.args.catalogue.now c.args.bytes.now c.args.fault c.in_ok-text.text.items c.in-Some.statement
    (subst (λ read. IsRead c.args.bytes.now read) c.in-Some.is c.in_ok-statement.ensures) c.in_ok-text.ensures
