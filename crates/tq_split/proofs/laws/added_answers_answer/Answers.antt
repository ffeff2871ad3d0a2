use Rattle.tq_split.proofs.SplitLemmas.{added_answers}
use Rattle.tq_split.proofs.laws.added_answers_answer.Goals as goal

pub returns : goal.returns
returns c = added_answers
