use Rattle.std.proofs.Common.{◌≡◌, ◌∙◌, Bool, true, false, cond, Option, None, refl, sym, ap}
use Rattle.tq_base.specs.declared.period.Period.{Period}
use Rattle.tq_plan.specs.Windows.{without_leading_spaces, inside_of, is_bracketed, period_in}
use Rattle.tq_plan.proofs.windows.read_window.Goals as goal

when : (b : Bool) (o : Option Period) → b ≡ true → cond b o None ≡ o
when true o e = refl
when false o e = cc

pub returns : goal.returns
returns c =
    let text = c.args.text.now in
    let form = c.args.form in
    c.read_period.ensures
    ∙ ap (period_in form) (c.without_leading_spaces.ensures ∙ ap without_leading_spaces c.inside_of.ensures)
    ∙ sym (when (is_bracketed text) (period_in form (without_leading_spaces (inside_of text))) (sym c.is_bracketed.ensures ∙ c.if-not-is_bracketed.false))
