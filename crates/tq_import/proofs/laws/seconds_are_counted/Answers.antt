use Rattle.tq_import.proofs.ClockLemmas.{counted}
use Rattle.tq_import.proofs.laws.seconds_are_counted.Goals as goal

pub returns : goal.returns
returns c format bytes second e = let k = counted format bytes second e in (k.day, k.time, k.day_is, k.time_is, k.small, k.is)
