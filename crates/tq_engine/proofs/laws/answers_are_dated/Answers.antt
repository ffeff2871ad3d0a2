use Rattle.tq_engine.proofs.DatedLemmas.{answers_dated}
use Rattle.tq_engine.proofs.laws.answers_are_dated.Goals as goal

pub returns : goal.returns
returns c = answers_dated c.bounds_are_given.ensures c.loaded_are_dated.ensures c.windows_are_dated.ensures
