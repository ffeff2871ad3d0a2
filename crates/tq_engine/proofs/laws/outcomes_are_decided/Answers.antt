use Rattle.tq_engine.proofs.OutcomeLemmas.{outcomes_exist, outcomes_unique}
use Rattle.tq_engine.proofs.laws.outcomes_are_decided.Goals as goal

pub returns-clause-exist : goal.returns-clause-exist
returns-clause-exist c = outcomes_exist c.loaded_exists.ensures c.texts_are_decided.ensures c.answers_exist.ensures

pub returns-clause-unique : goal.returns-clause-unique
returns-clause-unique c =
    outcomes_unique c.loaded_is_unique.ensures c.faults_are_refusals.ensures c.faults_are_unique.ensures c.statements_are_unique.ensures c.answers_are_unique.ensures
