use Rattle.std.proofs.Common.{arith}
use Rattle.jiff_core.proofs.SignedLemmas.{signed_arith}
use Rattle.tq_base.proofs.DateLemmas.{min_day}
use Rattle.tq_base.proofs.dates.first_date.Goals as goal

pub returns : goal.returns
returns c = let is = c.date.ensures in min_day c.date.result is.0 (omega (arith, signed_arith, is.1)) (omega (arith, signed_arith, is.2))
