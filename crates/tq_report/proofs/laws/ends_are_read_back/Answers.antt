use Rattle.tq_report.proofs.EndLaws.{read_back}
use Rattle.tq_report.proofs.laws.ends_are_read_back.Goals as goal

pub returns : goal.returns
returns c form end some within = read_back c.dates_round_trip.ensures.0 form end some within
