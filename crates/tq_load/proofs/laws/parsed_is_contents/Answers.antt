use Rattle.tq_load.proofs.ToldLemmas.{all_contents}
use Rattle.tq_load.proofs.laws.parsed_is_contents.Goals as goal

pub returns : goal.returns
returns c = all_contents
