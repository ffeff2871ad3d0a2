use Rattle.tq_sql.proofs.StatementLemmas.{unique}
use Rattle.tq_sql.proofs.laws.statements_are_unique.Goals as goal

pub returns : goal.returns
returns c = unique
