use Rattle.tq_check.proofs.KeyPassLemmas as passes
use Rattle.tq_check.proofs.laws.all_are_listed.Goals as goal

pub returns : goal.returns
returns c = passes.all_counted
