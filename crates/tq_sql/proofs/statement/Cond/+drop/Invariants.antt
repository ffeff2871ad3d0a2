-- What remains is at most as large as the initial condition, and each right part is smaller.
use Rattle.std.proofs.Common.{◌≤◌}
use Rattle.tq_sql.specs.declared.statement.Cond.{size-Cond}
use Rattle.tq_sql.proofs.statement.Cond.+drop.Given as goal

abbrev pub decreases-drop : goal.decreases-drop
decreases-drop l = goal.size-drop l

abbrev pub invariant-loop-self : goal.invariant-loop-self
invariant-loop-self l = size-Cond l.self ≤ size-Cond l.fn.self
