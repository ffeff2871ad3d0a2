use Rattle.std.proofs.Common.{◌≡◌, ◌-◌, ◌∙◌, true, sym, ap}
use Rattle.tq_base.specs.Fragments.{occurrences}
use Rattle.tq_base.specs.Periods.{holds}
use Rattle.tq_reference.proofs.AnswerLemmas.{times_alone, times_less}
use Rattle.tq_reference.proofs.instant.rows_at.Goals as goal
use Rattle.tq_reference.proofs.instant.rows_at.Goals.{in-Some+in_ok-query_rows, in_default}

pub returns-clause-rows : goal.returns-clause-rows
returns-clause-rows c v =
    let history = c.args.events.now in
    let plan = c.args.plan.now in
    let left = c.in_ok-rows.rows.items in
    let inside : holds plan.window c.args.instant ≡ true = sym c.holds.ensures ∙ c.if-not-holds.false in
    elim c.match-plan.branch [
      | in-Some+in_ok-query_rows w ↦
          times_less history c.args.n plan v c.args.instant w.in-Some.right c.match-plan.rows.items left w.in_ok-query_rows.field-0.items
          inside w.in-Some.is c.in_ok-rows.ensures.rows w.in_ok-query_rows.ensures.rows
          (ap (λ rows. occurrences rows.items v) w.rows-is
          ∙ w.remove_all.ensures v
          ∙ ap (λ l. occurrences left v - occurrences l v) w.deref.ensures.value)
      | in_default w ↦
          times_alone history c.args.n plan v c.args.instant c.match-plan.rows.items
          inside w.in_default.is (ap (λ rows. rows.items) w.rows-is ∙ c.in_ok-rows.ensures.rows)
    ]
