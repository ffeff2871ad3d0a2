use Rattle.std.proofs.Common.{arith}
use Rattle.tq_plan.proofs.cuts.sorted_inside.Goals as goal

pub returns-clause-some : goal.returns-clause-some
returns-clause-some c = λ bound has inside. omega (arith, c.sort_unstable.ensures.len, c.in_ok-inside.ensures.some bound has inside)
