use Rattle.std.proofs.Common.{◌≡◌, ◌≤◌, ℕ, List, cond, map, refl, sym, ap, ◌∙◌, subst}
use Rattle.std.specs.Prelude.{All}
use Rattle.std.specs.Option.{option_copied}
use Rattle.std.proofs.lemmas.Result.{IfOk-weaker}
use Rattle.tq_base.specs.declared.period.Period.{Period}
use Rattle.tq_base.specs.declared.value.Value.{Value}
use Rattle.tq_base.specs.Periods.{holds}
use Rattle.tq_base.specs.Fragments.{at, copies, occurrences}
use Rattle.tq_base.specs.Relations.{row_period_of}
use Rattle.tq_condition.specs.Ordinary.{HasInside, selection}
use Rattle.tq_ops.proofs.Cutting.{inside_from_counts, outside_from_counts}
use Rattle.tq_ops.proofs.Selecting.{counts_whole}
use Rattle.tq_ops.proofs.selection.select.Goals as goal

pub returns-clause-inside : goal.returns-clause-inside
returns-clause-inside c =
    let rows = c.args.rows.items in
    IfOk-weaker c.take_row_periods.result
    (λ out. out.items ≡ map (row_period_of rows) c.deref.result.now)
    (λ out. HasInside c.args.window.now out.items (λ t v. occurrences (selection (option_copied c.args.test) (at rows t)) v))
    (λ out same. subst (λ l. HasInside c.args.window.now l (λ t v. occurrences (selection (option_copied c.args.test) (at rows t)) v)) (sym (same ∙ ap (map (row_period_of rows)) c.deref.ensures.value)) c.in_ok-lines.ensures.inside)
    c.take_row_periods.ensures.rows

-- the input rows have these counts
whole : (c : goal.Then-all_rows_pass) → (t : ℕ) (v : List Value) → copies c.args.rows.items v t ≡ cond (holds c.args.window.now t) (occurrences (selection (option_copied c.args.test) (at c.args.rows.items t)) v) 0
whole c t v =
    let within = subst (All (λ (p : Period). (c.args.window.now.start ≤ p.start) × (p.end ≤ c.args.window.now.end))) c.periods.ensures c.if-are_within.ensures in
    counts_whole c.args.window.now (option_copied c.args.test) c.args.rows.items within (c.if-all_rows_pass.ensures refl) t v

pub returns-then-all_rows_pass-clause-inside : goal.returns-then-all_rows_pass-clause-inside
returns-then-all_rows_pass-clause-inside c =
    inside_from_counts c.args.window.now c.args.rows.items (λ t v. occurrences (selection (option_copied c.args.test) (at c.args.rows.items t)) v) (whole c)

pub returns-then-all_rows_pass-clause-outside : goal.returns-then-all_rows_pass-clause-outside
returns-then-all_rows_pass-clause-outside c =
    outside_from_counts c.args.window.now c.args.rows.items (λ t v. occurrences (selection (option_copied c.args.test) (at c.args.rows.items t)) v) (whole c)
