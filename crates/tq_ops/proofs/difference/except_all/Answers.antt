use Rattle.std.proofs.Common.{◌≡◌, ◌≢◌, ◌-◌, None, map, sym, ap, ◌∙◌, subst}
use Rattle.std.proofs.lemmas.Result.{IfOk-weaker}
use Rattle.tq_base.specs.Fragments.{at, copies, occurrences}
use Rattle.tq_base.specs.Relations.{row_period_of}
use Rattle.tq_condition.specs.Ordinary.{HasInside, selection}
use Rattle.tq_ops.proofs.Widths.{all_pass, nothing_taken}
use Rattle.tq_ops.proofs.difference.except_all.Goals as goal

pub returns-then-width-clause-inside : goal.returns-then-width-clause-inside
returns-then-width-clause-inside c =
    let left = c.args.left.items in
    let right = c.args.right.now.items in
    let apart : c.args.left.width ≢ c.args.right.now.width = λ same. c.if-width.true (c.width.ensures.width ∙ same ∙ sym c.width-2.ensures.width) in
    IfOk-weaker c.select.result
    (λ out. HasInside c.args.window.now out.items (λ t v. occurrences (selection None (at left t)) v))
    (λ out. HasInside c.args.window.now out.items (λ t v. copies left v t - copies right v t))
    (λ out inside t v held. inside t v held ∙ ap (λ l. occurrences l v) (all_pass (at left t)) ∙ nothing_taken left right c.args.left.width c.args.right.now.width v t c.width.ensures.rows c.width-2.ensures.rows apart) c.select.ensures.inside

pub returns-clause-inside : goal.returns-clause-inside
returns-clause-inside c =
    let left = c.args.left.items in
    let right = c.args.right.now.items in
    IfOk-weaker c.take_row_periods.result
    (λ out. out.items ≡ map (row_period_of left) c.deref.result.now)
    (λ out. HasInside c.args.window.now out.items (λ t v. copies left v t - copies right v t))
    (λ out same.
    subst (λ l. HasInside c.args.window.now l (λ t v. copies left v t - copies right v t)) (sym (same ∙ ap (map (row_period_of left)) c.deref.ensures.value)) c.in_ok-lines.ensures.inside)
    c.take_row_periods.ensures.rows
