use Rattle.std.proofs.Common.{All, ◌≡◌, ◌∙◌, ◌<◌, ◌≤◌, ℕ, ap, subst, sym}
use Rattle.tq_draw.specs.Calendar.{first_days, unit_of}
use Rattle.tq_draw.specs.Marks.{day_marks, days_to_mark, spaced}
use Rattle.tq_draw.proofs.CalendarLemmas.{days_within}
use Rattle.tq_draw.proofs.marks.day_marks.Goals as goal

pub spaced-requires-clause-days : goal.spaced-requires-clause-days
spaced-requires-clause-days c =
    let scale = c.args.scale.now in
    subst (All (λ day. (scale.first ≤ day) × (day < scale.last))) (sym (c.deref.ensures.value ∙ c.in_ok-days.ensures))
    (days_within (unit_of c.most_marks-most.result scale.first scale.last) scale.first scale.last)

pub returns-clause-value : goal.returns-clause-value
unfolding day_marks
returns-clause-value c =
    let scale = c.args.scale.now in
    let days : c.deref.result.now ≡ days_to_mark scale = c.deref.ensures.value ∙ c.in_ok-days.ensures
    ∙ ap (λ (n : ℕ). first_days (unit_of n scale.first scale.last) scale.first scale.last) c.most_marks-most.ensures in
    c.in_ok-marks.ensures.value ∙ ap (spaced scale 0) days
