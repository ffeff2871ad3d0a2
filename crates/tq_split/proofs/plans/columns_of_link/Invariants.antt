-- The best columns so far link the sources.
use Rattle.std.specs.Prelude.{IfSome}
use Rattle.std.specs.Global.{Vec}
use Rattle.std.proofs.Common.{ℕ, Option}
use Rattle.tq_exec.specs.Partitioning.{AreLinkedBy}
use Rattle.tq_exec.specs.Partitions.{columns_in}
use Rattle.tq_split.proofs.plans.columns_of_link.Given as goal

abbrev pub invariant-places : goal.invariant-places
invariant-places l = IfSome l.best (λ (columns : Vec (Option ℕ)). AreLinkedBy (columns_in columns.items) l.query)
