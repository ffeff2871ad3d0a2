use Rattle.std.proofs.Common.{arith, true, false, ◌≡◌}
use Rattle.std.proofs.lemmas.Option.{slice_get_read}
use Rattle.tq_core.specs.World.{machine_of}
use Rattle.tq_core.proofs.StepLemmas.{finish_refused, finish_taken}
use Rattle.tq_core.proofs.world.World.finish.Goals as goal

pub returns-then-not-can_close-clause-step : goal.returns-then-not-can_close-clause-step
returns-then-not-can_close-clause-step g c =
    let m = machine_of c.self.inside.history c.self.inside.published c.self.inside.lengths.items c.self.inside.seen.items c.self.inside.runs.items in
    let found = slice_get_read c.self.inside.runs.items c.len.result c.args.work c.index_mut-run.result.now (omega (arith, c.len.ensures)) c.if-work-len.false c.index_mut-run.ensures.value in
    rw (← c.self.view_is)
    (finish_refused g.row.A.Denot m c.args.work c.index_mut-run.result.now found (λ may. let can : c.can_close.result ≡ true = c.can_close.ensures.1 may in let cannot : c.can_close.result ≡ false = c.if-not-can_close.true in cc))

pub returns-clause-step : goal.returns-clause-step
returns-clause-step g c =
    let m = machine_of c.self.inside.history c.self.inside.published c.self.inside.lengths.items c.self.inside.seen.items c.self.inside.runs.items in
    let found = slice_get_read c.self.inside.runs.items c.len.result c.args.work c.index_mut-run.result.now (omega (arith, c.len.ensures)) c.if-work-len.false c.index_mut-run.ensures.value in
    let full = c.can_close.ensures.0 c.if-not-can_close.false in
    rw (← c.self.view_is)
    (finish_taken g.row.A.Denot m c.args.work c.index_mut-run.result.now found c.in_ok-close.field-0 c.close.new.self full.0 full.1 c.in_ok-close.ensures.order c.in_ok-close.ensures.closed)
