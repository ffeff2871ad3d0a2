use Rattle.std.proofs.Common.{arith}
use Rattle.tq_table.proofs.PrefetchLemmas.{of_part}
use Rattle.tq_table.proofs.prefetched_periods.PrefetchedPeriods.prefetch_range.Goals as goal

pub returns-clause-ahead : goal.returns-clause-ahead
returns-clause-ahead c =
    of_part c.args.periods.now c.args.keys.now c.args.start c.max-until.result c.in_ok-self.field-0.items
    (omega (arith, c.max-until.ensures, c.requires.order))
    (omega (arith, c.max-until.ensures, c.min.ensures, c.requires.within))
    c.in_ok-self.ensures
