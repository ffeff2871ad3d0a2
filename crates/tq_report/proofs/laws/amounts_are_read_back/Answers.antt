use Rattle.tq_report.proofs.AmountLaws.{read_back}
use Rattle.tq_report.proofs.laws.amounts_are_read_back.Goals as goal

pub returns : goal.returns
returns c places number small = read_back places number small
