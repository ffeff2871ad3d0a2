use Rattle.std.proofs.Common.{◌≡◌, ◌∙◌, ◌++◌, ◌∷◌, [], List, ℕ, ap, ap₂, decimal}
use Rattle.tq_base.specs.Numbers.{instant_text}
use Rattle.tq_base.specs.declared.form.Form.TheVariants.{Dates}
use Rattle.tq_totals.specs.Calendar.{label}
use Rattle.tq_totals.proofs.PeriodLemmas.{line_pieces}
use Rattle.tq_totals.proofs.periods.push_line.Goals as goal

pub returns : goal.returns
returns c =
    let text = c.args.text.now.items in
    let number = decimal c.args.number in
    let name = label c.args.unit c.args.first in
    let from = instant_text Dates c.args.first in
    let to = instant_text Dates c.args.end in
    let numbered : c.as_bytes.result.now ≡ number = c.as_bytes.ensures.value ∙ c.format.ensures.text in
    c.in_ok-push-4.ensures.items
    ∙ ap (λ (l : List ℕ). l ++ 10 ∷ []) (c.in_ok-push_day-2.ensures
    ∙ ap (λ (l : List ℕ). l ++ to) (c.in_ok-push-3.ensures.items
    ∙ ap (λ (l : List ℕ). l ++ 44 ∷ []) (c.in_ok-push_day.ensures
    ∙ ap (λ (l : List ℕ). l ++ from) (c.in_ok-push-2.ensures.items
    ∙ ap (λ (l : List ℕ). l ++ 44 ∷ []) (c.in_ok-extend_from_slice-2.ensures.items
    ∙ ap₂ (λ (l m : List ℕ). l ++ m) (c.in_ok-push.ensures.items
    ∙ ap (λ (l : List ℕ). l ++ 44 ∷ []) (c.in_ok-extend_from_slice.ensures.items ∙ ap (λ l. text ++ l) numbered)) c.put_label-len.ensures.text)))))
    ∙ line_pieces text number name from to
