use Rattle.std.proofs.Common.{◌∙◌, arith, pos, take}
use Rattle.std.specs.List.{slice_range}
use Rattle.std.proofs.lemmas.List.{length-drop, length-take}
use Rattle.jiff_core.proofs.CalendarLemmas.{days_in_month_bounds}
use Rattle.tq_base.specs.Dates.{date_in}
use Rattle.tq_base.proofs.DateLemmas.{instant_of_date, natural_none, natural_some, no_date}
use Rattle.tq_base.proofs.dates.read_date.Goals as goal
use Rattle.tq_base.proofs.dates.read_date.Goals.{then-bytes-ne10-via-then-bytes-ne10, then-bytes-ne10-via-else-bytes-ne10+then-bytes-ne45, then-bytes-ne10-via-else-bytes-ne10+else-bytes-ne45+then-bytes-ne45-2}

pub returns-then-bytes-ne10 : goal.returns-then-bytes-ne10
returns-then-bytes-ne10 c =
    no_date c.args.bytes.now (λ s d four. elim c.then-bytes-ne10.branch [
      | then-bytes-ne10-via-then-bytes-ne10 w ↦ w.if-bytes-ne10.true s.ten
      | then-bytes-ne10-via-else-bytes-ne10+then-bytes-ne45 w ↦ w.if-bytes-ne45.true s.dash
      | then-bytes-ne10-via-else-bytes-ne10+else-bytes-ne45+then-bytes-ne45-2 w ↦ w.if-bytes-ne45-2.true s.second_dash
    ])

pub returns-in_err-year : goal.returns-in_err-year
returns-in_err-year c =
    c.from_residual.ensures ∙ no_date c.args.bytes.now (λ s d four.
    natural_none 9999 (take 4 c.args.bytes.now) c.in_err-year.ensures (simp length-take (omega (arith, s.ten))) s.year four)

pub returns-in_err-month : goal.returns-in_err-month
returns-in_err-month c =
    c.from_residual-in_err-month.ensures ∙ no_date c.args.bytes.now (λ s d four.
    natural_none 12 (slice_range c.args.bytes.now 5 7) c.in_err-month.ensures (simp (length-take, length-drop) (omega (arith, s.ten))) s.month d.2)

pub returns-in_err-day : goal.returns-in_err-day
returns-in_err-day c =
    c.from_residual-in_err-day.ensures ∙ no_date c.args.bytes.now (λ s d four.
    let date = date_in c.args.bytes.now in
    natural_none 31 (slice_range c.args.bytes.now 8 10) c.in_err-day.ensures (simp (length-take, length-drop) (omega (arith, s.ten))) s.day (omega (arith, d.4, days_in_month_bounds (pos date.year) date.month)))

pub instant_on-requires-clause-month_in : goal.instant_on-requires-clause-month_in
instant_on-requires-clause-month_in c = (natural_some 12 c.in_ok-month.month (slice_range c.args.bytes.now 5 7) c.in_ok-month.ensures).2

pub instant_on-requires-clause-day_in : goal.instant_on-requires-clause-day_in
instant_on-requires-clause-day_in c = (natural_some 31 c.in_ok-day.day (slice_range c.args.bytes.now 8 10) c.in_ok-day.ensures).2

pub returns : goal.returns
returns c =
    let year = natural_some 9999 c.in_ok-year.year (take 4 c.args.bytes.now) c.in_ok-year.ensures in
    let month = natural_some 12 c.in_ok-month.month (slice_range c.args.bytes.now 5 7) c.in_ok-month.ensures in
    let day = natural_some 31 c.in_ok-day.day (slice_range c.args.bytes.now 8 10) c.in_ok-day.ensures in
    c.instant_on.ensures ∙ instant_of_date c.args.bytes.now (record { year = c.in_ok-year.year; month = c.in_ok-month.month; day = c.in_ok-day.day })
    (record { ten = omega (arith, c.if-bytes-ne10.false); year = year.0; dash = omega (arith, c.if-bytes-ne45.false); month = month.0; second_dash = omega (arith, c.if-bytes-ne45-2.false); day = day.0 }) year.1 month.1 day.1
