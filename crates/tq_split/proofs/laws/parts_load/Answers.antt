use Rattle.tq_split.proofs.PartLoadLemmas.{parts_loaded}
use Rattle.tq_split.proofs.laws.parts_load.Goals as goal

pub returns : goal.returns
returns c parts form column part text header records columns most limit table before entries split loads within =
    parts_loaded parts form column part text header records columns most limit table before entries split loads within
