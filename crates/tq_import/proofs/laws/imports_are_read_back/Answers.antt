use Rattle.tq_import.proofs.ReadBackLemmas.{read_back_of}
use Rattle.tq_import.proofs.laws.imports_are_read_back.Goals as goal

pub returns : goal.returns
returns c plan records text loadable e = read_back_of plan records text loadable e
