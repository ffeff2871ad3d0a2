-- There are the lists of the summands so far.
use Rattle.std.proofs.Common.{map}
use Rattle.tq_agg.proofs.Weighing.{AreListed}
use Rattle.tq_agg.proofs.summands.weights_of.Given as goal

abbrev pub invariant-summands : goal.invariant-summands
invariant-summands l = AreListed l.rows.items l.summands (map (λ list. list.items) l.weights.items) l.summand-index
