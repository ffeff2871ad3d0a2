use Rattle.tq_exec.proofs.RequiredLemmas.{named_tell}
use Rattle.tq_exec.proofs.laws.required_columns_suffice.Goals as goal

pub returns : goal.returns
returns c = named_tell
