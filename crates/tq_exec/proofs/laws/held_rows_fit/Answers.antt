use Rattle.tq_exec.proofs.HeldRows.{held_fit}
use Rattle.tq_exec.proofs.laws.held_rows_fit.Goals as goal

pub returns : goal.returns
returns c = held_fit
