use Rattle.std.proofs.Common.{◌≡◌, ◌∙◌, ◌+◌, ◌-◌, ◌<◌, ◌≤◌, Bool, List, ℕ, [], ◌∷◌, ◌++◌, ap, append-nil, arith, cond, length, length-append, min, sym}
use Rattle.tq_draw.proofs.CalendarLemmas.{before, before_more, before_skips, front_taken, whole_taken}
use Rattle.tq_draw.proofs.calendar.first_days.Goals as goal
use Rattle.tq_draw.proofs.calendar.first_days.Goals.{then-is_first+else-len-most+in_ok-push, else-is_first}

pub returns-then-len-most : goal.returns-then-len-most
returns-then-len-most c =
    let long : length (before c.args.unit c.args.first c.days.day) ≡ c.args.most =
    sym (ap (λ (l : List ℕ). length l) c.days.invariant.days) ∙ (let e : length c.days.days.items ≡ c.args.most = omega (arith, c.days.days.ok.0, c.len.ensures, c.if-len-most.true) in e) in
    c.days.invariant.days
    ∙ front_taken c.args.unit c.args.first c.args.last c.days.day c.args.most c.days.invariant.from (omega (arith, c.days-test.true, c.min-end.ensures)) long

pub days-preserved : goal.days-preserved
days-preserved c =
    let unit = c.args.unit in
    let first = c.args.first in
    let day = c.days.day in
    let so_far = before unit first day in
    let ahead = c.look_at-is_first.result.1 in
    let next = c.min-day.result in
    let n = next - (day + 1) in
    let place : day + 1 + n ≡ next = omega (arith, c.min-day.ensures, c.days-test.true) in
    let near : n ≤ ahead = omega (arith, c.min-day.ensures) in
    let skipped : before unit first next ≡ before unit first (day + 1) =
    sym (ap (before unit first) place)
    ∙ before_skips unit first (day + 1) n (omega (arith, c.days.invariant.from))
    (λ other low high. c.look_at-is_first.ensures.ahead other (omega (arith, low)) (omega (arith, high, near))) in
    let more = before_more unit first day c.days.invariant.from in
    let from : first ≤ next = omega (arith, c.days.invariant.from, place) in
    let within : first < next → next ≤ c.min-end.result = λ _. omega (arith, c.min-day.ensures) in
    elim c.if-is_first.branch [
      | then-is_first+else-len-most+in_ok-push w ↦
          rw (w.days-is, w.in_ok-push.ensures.items)
          (record {
            days = ap (λ (l : List ℕ). l ++ day ∷ []) c.days.invariant.days
                ∙ ap (λ (b : Bool). so_far ++ cond b (day ∷ []) []) (sym w.if-is_first.true ∙ c.look_at-is_first.ensures.first) ∙ sym more ∙ sym skipped;
            few = let e : length (c.days.days.items ++ day ∷ []) ≤ c.args.most =
                omega (arith, length-append c.days.days.items (day ∷ []), c.days.days.ok.0, w.len.ensures, w.if-len-most.false, c.days.invariant.few) in e;
            from = from;
            within = within;
          })
      | else-is_first w ↦
          rw w.days-is
          (record {
            days = c.days.invariant.days ∙ sym (append-nil so_far)
                ∙ ap (λ (b : Bool). so_far ++ cond b (day ∷ []) []) (sym w.if-is_first.false ∙ c.look_at-is_first.ensures.first) ∙ sym more ∙ sym skipped;
            few = c.days.invariant.few;
            from = from;
            within = within;
          })
    ]

pub returns : goal.returns
returns c =
    let few : length (before c.args.unit c.args.first c.days.day) ≤ c.args.most =
    omega (arith, ap (λ (l : List ℕ). length l) c.days.invariant.days, c.days.invariant.few) in
    let end : min c.args.last 3652059 ≤ c.days.day = omega (arith, c.days-test.false, c.min-end.ensures) in
    c.days.invariant.days
    ∙ whole_taken c.args.unit c.args.first c.args.last c.days.day c.args.most c.days.invariant.from
    (λ later. omega (arith, c.days.invariant.within later, c.min-end.ensures)) end few
