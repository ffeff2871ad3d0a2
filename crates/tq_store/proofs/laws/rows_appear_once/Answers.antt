use Rattle.tq_store.proofs.PartLemmas.{each_once}
use Rattle.tq_store.proofs.laws.rows_appear_once.Goals as goal

pub returns : goal.returns
returns c = each_once
