use Rattle.tq_check.proofs.OrphanLawLemmas as lemmas
use Rattle.tq_check.proofs.laws.other_rows_have_parents.Goals as goal

pub returns : goal.returns
returns c = lemmas.other_rows_have_parents
