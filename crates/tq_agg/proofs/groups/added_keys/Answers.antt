use Rattle.std.proofs.Common.{rules, ◌≡◌, arith, get_or, sym, subst, ◌∙◌}
use Rattle.std.proofs.lemmas.Int.{ints}
use Rattle.std.proofs.lemmas.List.{get_or_default}
use Rattle.tq_base.specs.SortInputs.{state_of}
use Rattle.tq_agg.specs.declared.summands.Summand.{Summand}
use Rattle.tq_agg.specs.Totals.{added, key_weight}
use Rattle.tq_agg.proofs.Adding.{added-ones, added-step}
use Rattle.tq_agg.proofs.Runs.{no_key}
use Rattle.tq_agg.proofs.Totals.{more_fits}
use Rattle.tq_agg.proofs.groups.added_keys.Goals as goal

pub overflow_add-total : goal.overflow_add-total
overflow_add-total c =
    let keys = c.args.keys.now in
    let i = c.keys.key-index in
    let k = get_or keys i no_key in
    let w = key_weight (state_of c.args.sort_input.now) c.args.summand in
    let lt = c.keys-test.true in
    let fits = more_fits w keys i k c.requires.small lt (omega arith) (get_or_default keys i no_key k lt) in
    let weighs = c.key_weight-total.ensures in
    omega (arith, ints, fits, weighs, c.keys.invariant)

pub keys-preserved : goal.keys-preserved
keys-preserved c =
    let keys = c.args.keys.now in
    let i = c.keys.key-index in
    let k = get_or keys i no_key in
    let w = key_weight (state_of c.args.sort_input.now) c.args.summand in
    let lt = c.keys-test.true in
    let fits = more_fits w keys i k c.requires.small lt (omega arith) (get_or_default keys i no_key k lt) in
    let step = added-step w keys i k lt (get_or_default keys i no_key k lt) in
    let weighs = c.key_weight-total.ensures in
    omega (arith, ints, fits, step, weighs, c.keys.invariant)

pub returns-then-is_one : goal.returns-then-is_one
returns-then-is_one c =
    let known : c.number_of.result ≡ added (key_weight (state_of c.args.sort_input.now) c.args.summand) c.args.keys.now =
    subst (λ (summand : Summand). c.number_of.result ≡ added (key_weight (state_of c.args.sort_input.now) summand) c.args.keys.now) (sym c.if-is_one.ensures) (c.number_of.ensures ∙ sym (added-ones c.args.keys.now)) in
    search (rules, known)
