use Rattle.std.proofs.Common.{arith, w64, FitsSigned, ◌∙◌, ap, unsigned_abs}
use Rattle.std.proofs.lemmas.Int.{to_z-of_z}
use Rattle.jiff_core.proofs.SignedLemmas.{signed_arith}
use Rattle.tq_base.proofs.DateLemmas.{days_from_min}
use Rattle.tq_base.proofs.dates.days_from_first.Goals as goal

pub returns : goal.returns
returns c =
    let small = c.as_hours.type_inv in
    let fits : FitsSigned w64 c.as_hours.result = omega (arith, signed_arith) in
    days_from_min c.args.date c.first_date-first.result c.duration_since.result.nanos c.as_hours.result c.unsigned_abs.result c.first_date-first.ensures c.duration_since.ensures c.as_hours.ensures
    (c.unsigned_abs.ensures.value ∙ ap unsigned_abs (to_z-of_z w64 c.as_hours.result fits))
