use Rattle.std.proofs.Common.{◌≤◌, arith, subst, sym, take}
use Rattle.std.specs.Prelude.{All}
use Rattle.std.proofs.lemmas.List.{take_all, take_more}
use Rattle.std.proofs.lemmas.List.Elements.{All-push, All-weaker}
use Rattle.tq_base.specs.declared.period.Period.{Period}
use Rattle.tq_split.proofs.adding.last_end.Goals as goal

pub periods-preserved : goal.periods-preserved
periods-preserved c =
    let periods = c.args.periods.now in
    let place = c.periods.period-index in
    let item = c.period-item.result in
    let new = c.later-last.result in
    let Ends : Period → Type 0 = λ (period : Period). period.end ≤ new in
    record {
      positive = omega (arith, c.periods.invariant.positive, c.later-last.ensures.kept);
      bound = c.later-last.ensures.bound c.periods.invariant.bound;
      ends =
          subst (All Ends) (sym (take_more periods place item c.periods-test.true))
          (All-push Ends (take place periods) _
          (All-weaker (λ (period : Period). period.end ≤ c.periods.last) Ends (λ period less. omega (arith, less, c.later-last.ensures.kept)) (take place periods) c.periods.invariant.ends)
          (subst Ends c.period-item.is c.later-last.ensures.end));
    }

pub returns-clause-last : goal.returns-clause-last
returns-clause-last c =
    subst (All (λ (period : Period). period.end ≤ c.periods.last)) (take_all c.periods.period-index c.args.periods.now (omega (arith, c.periods-test.false))) c.periods.invariant.ends
