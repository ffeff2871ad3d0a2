use Rattle.tq_engine.proofs.UniqueLemmas.{one_answer}
use Rattle.tq_engine.proofs.laws.answers_are_unique.Goals as goal

pub returns : goal.returns
returns c = one_answer c.loaded_is_unique.ensures c.statements_are_unique.ensures c.answers_are_unique.ensures
