use Rattle.tq_split.proofs.DivisionLemmas.{parts_appended}
use Rattle.tq_split.proofs.laws.parts_append.Goals as goal

pub returns : goal.returns
returns c parts form columns column begins header other records more part = parts_appended parts form columns column begins header other records more part
