use Rattle.tq_exec.proofs.AnswerLemmas.{one_answer}
use Rattle.tq_exec.proofs.laws.answers_are_unique.Goals as goal

pub returns : goal.returns
returns c = one_answer c.layers_are_unique.ensures
