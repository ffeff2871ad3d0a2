use Rattle.tq_split.proofs.PartLoadLemmas.{lines_loaded}
use Rattle.tq_split.proofs.laws.lines_load.Goals as goal

pub returns : goal.returns
returns c parts form column part header records columns limit table before entries reads each within =
    lines_loaded parts form column part header records columns limit table before entries reads each within
