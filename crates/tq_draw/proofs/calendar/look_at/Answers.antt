use Rattle.std.proofs.Common.{◌≡◌, ◌∙◌, ◌-◌, ℕ, ap, arith, inl, inr, take}
use Rattle.tq_base.specs.Dates.{date_of}
use Rattle.tq_base.specs.Numbers.{instant_text}
use Rattle.tq_base.specs.declared.form.Form.TheVariants.{Dates}
use Rattle.tq_draw.specs.Calendar.{is_first, is_first_date}
use Rattle.tq_draw.proofs.MonthLemmas.{day_bytes, day_or_longer, none_ahead}
use Rattle.tq_draw.proofs.calendar.look_at.Goals as goal

pub returns-clause-first : goal.returns-clause-first
unfolding is_first
returns-clause-first c =
    c.is_first_date.ensures
    ∙ ap (is_first_date c.args.unit) (c.put_instant-len.ensures.text ∙ ap (instant_text Dates) c.in-Some.ensures.value)

pub returns-clause-ahead : goal.returns-clause-ahead
returns-clause-ahead c other after near =
    let unit = c.args.unit in
    let day = c.args.day in
    let ahead = c.days_ahead-ahead.result in
    let text : take c.put_instant-len.result c.put_instant-len.new.into ≡ instant_text Dates day =
    c.put_instant-len.ensures.text ∙ ap (instant_text Dates) c.in-Some.ensures.value in
    elim (day_or_longer unit) [
      | inl days ↦ let none : ahead ≡ 0 = c.days_ahead-ahead.ensures.days days in absurd (omega (arith, none, after, near))
      | inr longer ↦
          let some : ahead ≡ 28 - (date_of day).day = c.days_ahead-ahead.ensures.others longer
          ∙ ap (λ (n : ℕ). 28 - n) (day_bytes day c.put_instant-len.result c.put_instant-len.new.into c.requires c.put_instant-len.array_long text) in
          none_ahead unit day other longer c.requires after (omega (arith, some, near))
    ]
