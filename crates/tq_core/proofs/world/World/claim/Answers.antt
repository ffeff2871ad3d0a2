use Rattle.std.proofs.Common.{◌∙◌, sym, arith}
use Rattle.std.proofs.lemmas.Option.{slice_get_read}
use Rattle.tq_core.specs.World.{machine_of}
use Rattle.tq_core.proofs.StepLemmas.{claim_refused, claim_taken}
use Rattle.tq_core.proofs.world.World.claim.Goals as goal

pub returns-then-is_closed-clause-step : goal.returns-then-is_closed-clause-step
returns-then-is_closed-clause-step g c =
    let m = machine_of c.self.inside.history c.self.inside.published c.self.inside.lengths.items c.self.inside.seen.items c.self.inside.runs.items in
    let found = slice_get_read c.self.inside.runs.items c.len.result c.args.work c.index_mut-run.result.now (omega (arith, c.len.ensures)) c.if-work-len.false c.index_mut-run.ensures.value in
    rw (← c.self.view_is) (claim_refused g.row.A.Denot m c.args.work c.index_mut-run.result.now found c.args.worker (sym c.is_closed.ensures ∙ c.if-is_closed.true))

pub returns-clause-step : goal.returns-clause-step
returns-clause-step g c =
    let m = machine_of c.self.inside.history c.self.inside.published c.self.inside.lengths.items c.self.inside.seen.items c.self.inside.runs.items in
    let found = slice_get_read c.self.inside.runs.items c.len.result c.args.work c.index_mut-run.result.now (omega (arith, c.len.ensures)) c.if-work-len.false c.index_mut-run.ensures.value in
    rw (← c.self.view_is)
    (claim_taken g.row.A.Denot m c.args.work c.index_mut-run.result.now found c.args.worker c.in_ok-claim.field-0 c.claim.new.self (sym c.is_closed.ensures ∙ c.if-is_closed.false) c.if-worker-ge-MAX_WORKERS.false c.in_ok-claim.ensures.piece c.in_ok-claim.ensures.claimed)
