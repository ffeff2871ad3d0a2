use Rattle.std.proofs.Common.{arith, rules, FitsSigned}
use Rattle.std.specs.Int.{w64}
use Rattle.std.proofs.lemmas.Int.{ints}
use Rattle.tq_agg.specs.declared.changes.Change.{Change}
use Rattle.tq_agg.proofs.Adding.{added-step}
use Rattle.tq_agg.proofs.Totals.{more_fits}
use Rattle.tq_agg.proofs.changes.weight_in.Goals as goal

pub overflow_add-weight : goal.overflow_add-weight
overflow_add-weight c =
    let small : FitsSigned w64 c.change-item.result.weight = search rules in
    let fits = more_fits (λ (x : Change). x.weight) c.args.changes.now c.changes.change-index c.change-item.result c.requires c.changes-test.true (omega arith) c.change-item.is in
    omega (arith, ints, small, fits, c.from-weight.ensures, c.changes.invariant)

pub changes-preserved : goal.changes-preserved
changes-preserved c =
    let small : FitsSigned w64 c.change-item.result.weight = search rules in
    let fits = more_fits (λ (x : Change). x.weight) c.args.changes.now c.changes.change-index c.change-item.result c.requires c.changes-test.true (omega arith) c.change-item.is in
    let step = added-step (λ (x : Change). x.weight) c.args.changes.now c.changes.change-index c.change-item.result c.changes-test.true c.change-item.is in
    omega (arith, ints, small, fits, step, c.from-weight.ensures, c.changes.invariant)
