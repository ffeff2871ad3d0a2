use Rattle.tq_exec.proofs.ProjectedLemmas.{tables_tell}
use Rattle.tq_exec.proofs.laws.projected_tables_answer.Goals as goal

pub returns : goal.returns
returns c = tables_tell c.required_columns_suffice.ensures c.all_columns_suffice.ensures
