use Rattle.tq_check.proofs.KeyListLemmas as lists
use Rattle.tq_check.proofs.laws.overlaps_are_overlaps.Goals as goal

pub returns : goal.returns
returns c = lists.overlaps_overlap
