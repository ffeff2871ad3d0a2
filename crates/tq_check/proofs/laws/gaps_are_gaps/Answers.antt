use Rattle.tq_check.proofs.KeyListLemmas as lists
use Rattle.tq_check.proofs.laws.gaps_are_gaps.Goals as goal

pub returns : goal.returns
returns c = lists.gaps_are_empty
