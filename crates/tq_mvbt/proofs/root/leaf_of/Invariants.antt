use Rattle.tq_mvbt.specs.Shape.{IsFound}
use Rattle.tq_mvbt.proofs.root.leaf_of.Given as goal

abbrev pub invariant-levels : goal.invariant-levels
invariant-levels l = IsFound l.nodes.nodes l.level l.key l.number

abbrev pub decreases-levels : goal.decreases-levels
decreases-levels l = l.level
