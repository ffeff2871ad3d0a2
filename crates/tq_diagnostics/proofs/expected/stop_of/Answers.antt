use Rattle.tq_diagnostics.proofs.expected.stop_of.Goals as goal

pub returns-in-Ok : goal.returns-in-Ok
returns-in-Ok c = λ f is. c.faults_are_refusals.ensures c.args.bytes.now f c.in-Ok.field-0 is c.in-Ok.ensures.statement
