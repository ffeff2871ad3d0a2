use Rattle.std.proofs.Common.{◌∙◌, ◌≤◌, ℕ, arith, subst, sym}
use Rattle.std.specs.Prelude.{All}
use Rattle.tq_totals.proofs.PeriodLemmas.{days_within}
use Rattle.tq_totals.proofs.periods.calendar.Goals as goal

pub push_lines-requires : goal.push_lines-requires
push_lines-requires c =
    subst (All (λ (day : ℕ). day ≤ 3652058)) (sym (c.deref.ensures.value ∙ c.in_ok-days.ensures.days))
    (days_within c.args.unit c.args.start c.last_day-end.result 3652058 (omega (arith, c.last_day-end.ensures)))
