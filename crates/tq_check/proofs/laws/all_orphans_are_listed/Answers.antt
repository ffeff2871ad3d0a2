use Rattle.tq_check.proofs.LinkLemmas as links
use Rattle.tq_check.proofs.laws.all_orphans_are_listed.Goals as goal

pub returns : goal.returns
returns c = links.orphan_number
