use Rattle.std.proofs.Common.{arith}
use Rattle.tq_plan.proofs.plans.Plan.cuts.Goals as goal

pub returns-clause-several : goal.returns-clause-several
returns-clause-several c = λ edge has inside two.
    c.cut_window.ensures.several (c.max_pieces.ensures.several two) (omega (arith, c.deref.ensures.len, c.in_ok-bounds.ensures.some edge has inside))
