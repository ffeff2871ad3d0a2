use Rattle.tq_check.proofs.KeyRankLemmas as ranks
use Rattle.tq_check.proofs.laws.key_order_is_unique.Goals as goal

pub returns : goal.returns
returns c = ranks.same_order
