use Rattle.tq_check.proofs.OrphanLawLemmas as lemmas
use Rattle.tq_check.proofs.laws.missing_periods_are_first.Goals as goal

pub returns : goal.returns
returns c = lemmas.missing_periods_are_first
