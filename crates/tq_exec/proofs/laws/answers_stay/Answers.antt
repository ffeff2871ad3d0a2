use Rattle.tq_exec.proofs.AnswerLemmas.{answer_stays}
use Rattle.tq_exec.proofs.laws.answers_stay.Goals as goal

pub returns : goal.returns
returns c = answer_stays c.prefixes_agree.ensures c.answers_agree.ensures
