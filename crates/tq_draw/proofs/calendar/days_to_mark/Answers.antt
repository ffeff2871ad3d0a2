use Rattle.std.proofs.Common.{◌∙◌, ◌<◌, ◌≤◌, ap, arith, length, sym}
use Rattle.tq_draw.specs.Calendar.{finer_units, first_days}
use Rattle.tq_draw.specs.declared.calendar.Unit.{Unit}
use Rattle.tq_draw.specs.declared.calendar.Unit.TheVariants.{Day}
use Rattle.tq_draw.proofs.CalendarLemmas.{all_days, coarsest, unit_fits, unit_is, unit_is_fine}
use Rattle.tq_draw.proofs.calendar.days_to_mark.Goals as goal

pub units-init : goal.units-init
units-init c = unit_is c.args.most c.args.first c.args.last

pub returns-then-len-most : goal.returns-then-len-most
returns-then-len-most c =
    let few : length c.in_ok-days.days.items ≤ c.args.most = omega (arith, c.in_ok-days.days.ok.0, c.len.ensures, c.if-len-most.true) in
    unit_fits finer_units Day c.units.unit-index c.args.most c.args.first c.args.last c.in_ok-days.days.items c.units-test.true c.in_ok-days.ensures few
    ∙ ap (λ (u : Unit). first_days u c.args.first c.args.last) c.units.invariant

pub units-preserved : goal.units-preserved
units-preserved c =
    let many : c.args.most < length c.in_ok-days.days.items = omega (arith, c.in_ok-days.days.ok.0, c.len.ensures, c.if-len-most.false) in
    unit_is_fine finer_units Day c.units.unit-index c.args.most c.args.first c.args.last c.in_ok-days.days.items c.units-test.true c.in_ok-days.ensures many
    ∙ c.units.invariant

pub returns : goal.returns
returns c =
    let unit = sym (coarsest c.units.unit-index c.args.most c.args.first c.args.last (omega (arith, c.units-test.false))) ∙ c.units.invariant in
    c.in_ok-days-2.ensures ∙ all_days c.args.first c.args.last ∙ ap (λ (u : Unit). first_days u c.args.first c.args.last) unit
