use Rattle.std.proofs.Common.{◌∙◌, ap, sym}
use denote.Enum.Bare.{same_false}
use Rattle.tq_sql.specs.contracts.fault.SqlFaultKind.{the_type}
use Rattle.tq_sql.specs.declared.fault.SqlFault.{SqlFault}
use Rattle.tq_diagnostics.proofs.plans.statement_of.Goals as goal

pub returns : goal.returns
returns c = λ statement makes.
    c.faults_are_refusals.ensures c.args.bytes.now c.in-Err.fault statement
    (c.in-Err.ensures.fault (λ memory. same_false the_type _ _ (sym c.eq.ensures ∙ c.if-eq.false) (ap (λ (fault : SqlFault). fault.kind) memory)))
    makes
