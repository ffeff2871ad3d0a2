use Rattle.std.proofs.lemmas.Result.{IfOk-weaker}
use Rattle.tq_exec.proofs.period_pieces.pieces_of.Goals as goal

pub returns-clause-pieces : goal.returns-clause-pieces
returns-clause-pieces g c = IfOk-weaker c.run_with.result _ _ (λ pieces is i e less d. is.1 i e less d) c.run_with.ensures
