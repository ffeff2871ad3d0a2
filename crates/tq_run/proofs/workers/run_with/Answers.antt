use Rattle.std.proofs.Common.{sym, ◌∙◌, subst}
use Rattle.tq_run.specs.Counting.{EachOnce}
use Rattle.tq_run.proofs.workers.run_with.Goals as goal

-- the list of the first claimant, which has each piece once, is that of the results
pub in_order-requires-clause-once : goal.in_order-requires-clause-once
in_order-requires-clause-once g c =
    let pieces = c.in_ok-claims.ensures.pieces ∙ c.pieces-pieces.ensures in
    let once = subst (EachOnce c.in_ok-by.field-0.by.knows.taken) pieces c.close.ensures in
    subst (λ l. EachOnce l (g.W.Work.count c.args.work.now)) (sym c.in_ok-by.ensures.share.2) once
