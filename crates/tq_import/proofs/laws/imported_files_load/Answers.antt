use Rattle.tq_import.proofs.LoadBackLemmas.{files_load}
use Rattle.tq_import.proofs.laws.imported_files_load.Goals as goal

pub returns : goal.returns
returns c plan records file name limit loadable e folded few within = files_load plan records file name limit loadable e folded few within
