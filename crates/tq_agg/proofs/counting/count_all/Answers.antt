use Rattle.std.proofs.Common.{◌≡◌, ℕ, ◌+◌, ℤ, pos, Bool, true, false, cond, List, [], ◌∷◌, length, refl, ap, ◌∙◌, arith}
use Rattle.std.specs.Ordering.{eq_by_cmp}
use Rattle.tq_base.specs.declared.value.Value.{Value}
use Rattle.tq_base.specs.Contents.{Int}
use Rattle.tq_base.specs.declared.period.Period.{Period}
use Rattle.tq_base.specs.declared.fragment.Fragment.{Fragment}
use Rattle.tq_base.specs.ValueOrder.{values_cmp}
use Rattle.tq_base.specs.Periods.{holds}
use Rattle.tq_base.specs.Fragments.{at, copies, occurrences}
use Rattle.tq_agg.specs.declared.summands.Summand.TheVariants.{One}
use Rattle.tq_agg.specs.Grouping.{count_rows}
use Rattle.tq_agg.specs.Endpoints.{count_upto}
use Rattle.tq_agg.specs.Totals.{added, held_weight, weight_of}
use Rattle.tq_agg.proofs.Instants.{inside_from_counts, one_if, outside_from_counts}
use Rattle.tq_agg.proofs.Gathering.{all_add, added-ones}
use Rattle.tq_agg.proofs.Starts.{sorted_rise}
use Rattle.tq_agg.proofs.counting.count_all.Goals as goal

counted_rows : (window : Period) (rows : List Fragment) (t : ℕ) (v : List Value) (total : ℤ) (old new : ℕ) → total ≡ added (held_weight One window t) rows → old ≡ 0
    → new ≡ old + cond (holds window t) (one_if (eq_by_cmp values_cmp (Int total ∷ []) v)) 0 → new ≡ cond (holds window t) (occurrences (count_rows (at rows t)) v) 0
counted_rows window rows t v total old new is none more = split (holds window t) refl
  where
    split : (b : Bool) → holds window t ≡ b → new ≡ cond b (occurrences (count_rows (at rows t)) v) 0
    split true inside =
        let all : total ≡ pos (length (at rows t)) = is ∙ all_add window t inside (weight_of One) rows ∙ added-ones (at rows t) in
        omega (arith, more, none, ap (λ b. cond b (one_if (eq_by_cmp values_cmp (Int total ∷ []) v)) 0) inside, ap (λ n. one_if (eq_by_cmp values_cmp (Int n ∷ []) v)) all)
    split false outside = omega (arith, more, none, ap (λ b. cond b (one_if (eq_by_cmp values_cmp (Int total ∷ []) v)) 0) outside)

pub sweep-requires-clause-starts : goal.sweep-requires-clause-starts
sweep-requires-clause-starts c = sorted_rise c.args.window.now c.in_ok-endpoints.endpoints.starts.items c.in_ok-endpoints.ensures.starts

pub sweep-requires-clause-ends : goal.sweep-requires-clause-ends
sweep-requires-clause-ends c = sorted_rise c.args.window.now c.in_ok-endpoints.endpoints.ends.items c.in_ok-endpoints.ensures.ends

pub returns-clause-inside : goal.returns-clause-inside
returns-clause-inside c =
    let endpoints = c.in_ok-endpoints.endpoints in
    inside_from_counts c.args.window.now c.sweep.new.out.items (λ t v. occurrences (count_rows (at c.args.rows.now.items t)) v)
    (λ t v. counted_rows c.args.window.now c.args.rows.now.items t v (count_upto endpoints.starts.items endpoints.ends.items t) (copies c.new-out.result.items v t) (copies c.sweep.new.out.items v t)
    (c.in_ok-endpoints.ensures.counts t) (ap (λ l. copies l v t) c.new-out.ensures.rows) (c.in_ok-sweep.ensures.rows t v))

pub returns-clause-outside : goal.returns-clause-outside
returns-clause-outside c =
    let endpoints = c.in_ok-endpoints.endpoints in
    outside_from_counts c.args.window.now c.sweep.new.out.items (λ t v. occurrences (count_rows (at c.args.rows.now.items t)) v)
    (λ t v. counted_rows c.args.window.now c.args.rows.now.items t v (count_upto endpoints.starts.items endpoints.ends.items t) (copies c.new-out.result.items v t) (copies c.sweep.new.out.items v t)
    (c.in_ok-endpoints.ensures.counts t) (ap (λ l. copies l v t) c.new-out.ensures.rows) (c.in_ok-sweep.ensures.rows t v))
