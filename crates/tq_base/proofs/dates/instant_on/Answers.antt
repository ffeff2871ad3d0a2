use Rattle.std.proofs.Common.{◌≡◌, ◌∙◌, ◌<◌, ◌-◌, ℕ, ap, arith, Option, Some, None, sym, w8, w16}
use Rattle.std.specs.Prelude.{IsSome, IfSome}
use Rattle.std.proofs.lemmas.Int.{to_z_pos}
use Rattle.jiff_core.proofs.DateLemmas.{epoch_day_range}
use Rattle.jiff_core.proofs.SignedLemmas.{signed_arith}
use Rattle.tq_base.specs.Dates.{CivilDate}
use Rattle.tq_base.proofs.DateLemmas.{jiff_has}
use Rattle.tq_base.proofs.dates.instant_on.Goals as goal

known : (o : Option ℕ) (n : ℕ) → IsSome o → IfSome o (λ t. t ≡ n) → o ≡ Some n
known None n some is = absurd cc
known (Some t) n some is = ap Some is

pub overflow_sub-days_from_first : goal.overflow_sub-days_from_first
overflow_sub-days_from_first c =
    let date : CivilDate = record { year = c.args.year; month = c.args.month; day = c.args.day } in
    let is = c.in-Ok.ensures.value in
    (jiff_has c.in-Ok.date c.days_from_first.result date (omega (arith, c.if-year-eq0.false))
    (is.0 ∙ to_z_pos w16 c.args.year (omega (arith, c.requires.year_in)), is.1 ∙ to_z_pos w8 c.args.month (omega (arith, c.requires.month_in)), is.2 ∙ to_z_pos w8 c.args.day (omega (arith, c.requires.day_in)))
    c.days_from_first.ensures).0

pub returns-in-Ok : goal.returns-in-Ok
returns-in-Ok c =
    let date : CivilDate = record { year = c.args.year; month = c.args.month; day = c.args.day } in
    let is = c.in-Ok.ensures.value in
    let has = jiff_has c.in-Ok.date c.days_from_first.result date (omega (arith, c.if-year-eq0.false))
    (is.0 ∙ to_z_pos w16 c.args.year (omega (arith, c.requires.year_in)), is.1 ∙ to_z_pos w8 c.args.month (omega (arith, c.requires.month_in)), is.2 ∙ to_z_pos w8 c.args.day (omega (arith, c.requires.day_in)))
    c.days_from_first.ensures in
    let range = epoch_day_range c.in-Ok.date in
    let within : c.days_from_first.result - 3_652_425 < 1000000000000 = omega (arith, signed_arith, c.days_from_first.ensures) in
    known c.new-in-Ok.result (c.days_from_first.result - 3_652_425) (c.new-in-Ok.ensures.valid.1 within) c.new-in-Ok.ensures.value ∙ sym has.1
