use Rattle.tq_totals.proofs.GroupLemmas.{unique}
use Rattle.tq_totals.proofs.laws.totals_are_unique.Goals as goal

pub returns : goal.returns
returns c = unique
