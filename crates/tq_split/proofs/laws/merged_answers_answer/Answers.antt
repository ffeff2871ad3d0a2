use Rattle.tq_split.proofs.SplitLemmas.{merged_answers}
use Rattle.tq_split.proofs.laws.merged_answers_answer.Goals as goal

pub returns : goal.returns
returns c = merged_answers
