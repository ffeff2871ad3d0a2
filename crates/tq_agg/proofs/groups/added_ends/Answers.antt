use Rattle.std.proofs.Common.{rules, ◌≡◌, arith, sym, subst, ◌∙◌}
use Rattle.std.proofs.lemmas.Int.{ints}
use Rattle.tq_base.specs.SortInputs.{state_of}
use Rattle.tq_agg.specs.declared.bounds.End.{End}
use Rattle.tq_agg.specs.declared.summands.Summand.{Summand}
use Rattle.tq_agg.specs.Totals.{added, end_key, key_weight}
use Rattle.tq_agg.proofs.Adding.{added-ones, added-step}
use Rattle.tq_agg.proofs.Totals.{more_fits}
use Rattle.tq_agg.proofs.groups.added_ends.Goals as goal

pub overflow_add-total : goal.overflow_add-total
overflow_add-total c =
    let ends = c.args.ends.now in
    let fits = more_fits (λ (e : End). key_weight (state_of c.args.sort_input.now) c.args.summand (end_key e)) ends c.ends.end-index c.end-item.result c.requires.small c.ends-test.true (omega arith) c.end-item.is in
    let weighs = c.key_weight-total.ensures in
    omega (arith, ints, fits, weighs, c.ends.invariant)

pub ends-preserved : goal.ends-preserved
ends-preserved c =
    let ends = c.args.ends.now in
    let fits = more_fits (λ (e : End). key_weight (state_of c.args.sort_input.now) c.args.summand (end_key e)) ends c.ends.end-index c.end-item.result c.requires.small c.ends-test.true (omega arith) c.end-item.is in
    let step = added-step (λ (e : End). key_weight (state_of c.args.sort_input.now) c.args.summand (end_key e)) ends c.ends.end-index c.end-item.result c.ends-test.true c.end-item.is in
    let weighs = c.key_weight-total.ensures in
    omega (arith, ints, fits, step, weighs, c.ends.invariant)

pub returns-then-is_one : goal.returns-then-is_one
returns-then-is_one c =
    let known : c.number_of.result ≡ added (λ (e : End). key_weight (state_of c.args.sort_input.now) c.args.summand (end_key e)) c.args.ends.now =
    subst (λ (summand : Summand). c.number_of.result ≡ added (λ (e : End). key_weight (state_of c.args.sort_input.now) summand (end_key e)) c.args.ends.now) (sym c.if-is_one.ensures) (c.number_of.ensures ∙ sym (added-ones c.args.ends.now)) in
    search (rules, known)
