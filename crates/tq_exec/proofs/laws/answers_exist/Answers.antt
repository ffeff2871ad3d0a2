use Rattle.tq_exec.proofs.ExistLemmas.{answer_exists}
use Rattle.tq_exec.proofs.laws.answers_exist.Goals as goal

pub returns : goal.returns
returns c = answer_exists c.layers_exist.ensures
