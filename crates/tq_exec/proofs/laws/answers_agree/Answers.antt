use Rattle.tq_exec.proofs.TableLemmas.{answers_agree}
use Rattle.tq_exec.proofs.laws.answers_agree.Goals as goal

pub returns : goal.returns
returns c = answers_agree c.plans_are_valid.ensures
