use Rattle.tq_load.proofs.ToldLemmas.{headers_held}
use Rattle.tq_load.proofs.laws.headers_are_catalogue.Goals as goal

pub returns : goal.returns
returns c = λ form files limit schemas contents headed. headers_held form files limit schemas headed contents
