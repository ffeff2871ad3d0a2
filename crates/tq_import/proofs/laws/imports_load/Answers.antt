use Rattle.tq_import.proofs.LoadBackLemmas.{loads_of}
use Rattle.tq_import.proofs.laws.imports_load.Goals as goal

pub returns : goal.returns
returns c plan records text limit table before loadable e few within = loads_of plan records text limit table before loadable e few within
