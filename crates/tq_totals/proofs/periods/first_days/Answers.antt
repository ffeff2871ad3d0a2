use Rattle.std.proofs.Common.{◌≡◌, ◌∙◌, ◌<◌, ◌≤◌, ◌==◌, ◌+◌, ◌⊎◌, inl, inr, ◌-◌, ◌++◌, ◌∷◌, [], List, ℕ, ap, ap₂, arith, cond, sym, take}
use Rattle.std.proofs.lemmas.Bool.{cases_lt}
use Rattle.std.proofs.lemmas.List.{append-nil}
use Rattle.tq_totals.specs.Calendar.{first_days, label}
use Rattle.tq_totals.proofs.PeriodLemmas.{begins_is, days_more, none_before}
use Rattle.tq_totals.proofs.periods.first_days.Goals as goal
use Rattle.tq_totals.proofs.periods.first_days.Goals.{then-begins+in_ok-push, else-begins}

pub days-preserved : goal.days-preserved
days-preserved c =
    let unit = c.args.unit in
    let first = c.args.first in
    let number = c.days.number in
    let order : first ≤ number = omega (arith, c.days.auto.number, c.number-number.ensures.value) in
    let day : c.unwrap-day.result ≡ number = rw c.unwrap-day.ensures at c.new.ensures.value in
    let is_label : take c.put_label-len.result c.put_label-len.new.into ≡ label unit number = c.put_label-len.ensures.text ∙ ap (label unit) day in
    let is_first = c.eq.ensures ∙ ap (λ n. n == first) day in
    let begun = begins_is unit first number c.eq.result c.begins.result (take c.days.last_len c.days.last) (take c.put_label-len.result c.put_label-len.new.into)
    order is_first c.days.invariant.last is_label c.begins.ensures in
    record {
      days = elim c.if-begins.branch [
        | then-begins+in_ok-push w ↦
            ap (λ v. v.items) w.days-is ∙ w.in_ok-push.ensures.items ∙ ap₂ (λ (l : List ℕ) (n : ℕ). l ++ n ∷ []) c.days.invariant.days day
            ∙ ap (λ b. first_days unit first number ++ cond b (number ∷ []) []) (sym w.if-begins.true ∙ begun)
            ∙ sym (days_more unit first number order)
        | else-begins w ↦
            ap (λ v. v.items) w.days-is ∙ c.days.invariant.days ∙ sym (append-nil (first_days unit first number))
            ∙ ap (λ b. first_days unit first number ++ cond b (number ∷ []) []) (sym w.if-begins.false ∙ begun)
            ∙ sym (days_more unit first number order)
      ];
      within = λ later. omega (arith, c.days-test.true, c.number-number-end.ensures.value);
      short = c.put_label-len.ensures.in_range;
      last = λ later. is_label ∙ ap (label unit) (let e : number ≡ number + 1 - 1 = omega arith in e);
    }

pub returns : goal.returns
returns c = record { days = by (cases_lt c.args.first c.days.number) }
  where
    by : (c.args.first < c.days.number) ⊎ (c.days.number ≤ c.args.first) → c.days.days.items ≡ first_days c.args.unit c.args.first c.args.end
    by (inl later) = c.days.invariant.days ∙ ap (first_days c.args.unit c.args.first) (omega (arith, c.days.invariant.within later, c.days-test.false, c.number-number-end.ensures.value))
    by (inr begun) = c.days.invariant.days ∙ none_before c.args.unit c.args.first c.days.number begun
        ∙ sym (none_before c.args.unit c.args.first c.args.end (omega (arith, begun, c.days-test.false, c.number-number-end.ensures.value)))
