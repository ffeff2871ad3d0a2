use Rattle.tq_exec.proofs.ProjectedLemmas.{rows_fit, tables_fit, tables_hold}
use Rattle.tq_exec.proofs.laws.projected_rows_fit.Goals as goal

pub returns : goal.returns
returns c = record { rows = rows_fit; tables = tables_fit; valid = tables_hold }
