use Rattle.std.proofs.Common.{◌∙◌, ap, arith, unsigned_abs, FitsSigned, w8, w16}
use Rattle.std.proofs.lemmas.Int.{to_z-of_z}
use Rattle.jiff_core.proofs.CalendarLemmas.{days_in_month_bounds}
use Rattle.jiff_core.proofs.SignedLemmas.{signed_arith}
use Rattle.tq_base.proofs.DateLemmas.{jiff_day}
use Rattle.tq_base.proofs.dates.parts_of.Goals as goal

pub returns-clause-year : goal.returns-clause-year
returns-clause-year c =
    let is = jiff_day c.date_after_first-date.result c.args.day c.requires c.date_after_first-date.ensures in
    let small = c.year.type_inv in
    let fits : FitsSigned w16 c.year.result = omega (arith, signed_arith) in
    c.from.ensures ∙ c.unsigned_abs.ensures.value ∙ ap unsigned_abs (to_z-of_z w16 c.year.result fits ∙ c.year.ensures ∙ is.0)

pub returns-clause-month : goal.returns-clause-month
returns-clause-month c =
    let is = jiff_day c.date_after_first-date.result c.args.day c.requires c.date_after_first-date.ensures in
    let small = c.month.type_inv in
    let fits : FitsSigned w8 c.month.result = omega (arith, signed_arith) in
    c.from-2.ensures ∙ c.unsigned_abs-2.ensures.value ∙ ap unsigned_abs (to_z-of_z w8 c.month.result fits ∙ c.month.ensures) ∙ is.1

pub returns-clause-day : goal.returns-clause-day
returns-clause-day c =
    let is = jiff_day c.date_after_first-date.result c.args.day c.requires c.date_after_first-date.ensures in
    let last = days_in_month_bounds c.date_after_first-date.result.year c.date_after_first-date.result.month in
    let fits : FitsSigned w8 c.day.result = omega (arith, signed_arith, c.date_after_first-date.result.day_in.1) in
    c.from-3.ensures ∙ c.unsigned_abs-3.ensures.value ∙ ap unsigned_abs (to_z-of_z w8 c.day.result fits ∙ c.day.ensures) ∙ is.2
