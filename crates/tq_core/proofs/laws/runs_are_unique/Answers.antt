use Rattle.tq_core.proofs.UniqueLemmas.{run_unique}
use Rattle.tq_core.proofs.laws.runs_are_unique.Goals as goal

pub returns : goal.returns
returns g c = run_unique g.row.O-Query.Denot g.row.O-Answer.Denot (g.O.Oracle.value c.args._oracle.now)
