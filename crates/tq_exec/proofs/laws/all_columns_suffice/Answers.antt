use Rattle.tq_exec.proofs.ProjectedLemmas.{all_tell}
use Rattle.tq_exec.proofs.laws.all_columns_suffice.Goals as goal

pub returns : goal.returns
returns c = all_tell
