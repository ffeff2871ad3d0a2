use Rattle.tq_base.specs.Sweep.{reordered}
use Rattle.tq_table.proofs.layering.layered.Goals as goal

pub returns-clause-layering : goal.returns-clause-layering
returns-clause-layering c =
    reordered c.args.periods.now c.in_ok-made.made.items c.sort_unstable.new.self.items c.sort_unstable.ensures.permutation c.in_ok-made.ensures.layering
