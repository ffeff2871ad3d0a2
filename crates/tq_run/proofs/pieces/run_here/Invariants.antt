use Rattle.tq_run.specs.Results.{IsResultList}
use Rattle.tq_run.proofs.pieces.run_here.Given as goal

abbrev pub invariant-loop-i : goal.invariant-loop-i
invariant-loop-i g l = IsResultList (g.W.Work.relates l.work) l.i l.results.items
