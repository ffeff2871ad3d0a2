use Rattle.std.proofs.Common.{◌∙◌, ◌-◌, ap, drop, take}
use Rattle.tq_table.specs.Prefetching.{periods_of_keys}
use Rattle.tq_table.proofs.PrefetchLemmas.{part}
use Rattle.tq_table.proofs.prefetched_periods.PrefetchedPeriods.between.Goals as goal

pub returns : goal.returns
returns c periods keys are =
    let from = c.args.self.now.from in
    let start = c.args.start in
    let end = c.args.end in
    ap (λ l. take (end - from - (start - from)) (drop (start - from) l)) c.deref.ensures.value
    ∙ part (periods_of_keys periods keys) c.args.self.now.periods.items from start end are c.requires.from c.requires.order c.requires.there
