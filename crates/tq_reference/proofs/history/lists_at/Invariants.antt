-- The lists of the sources so far.
use Rattle.std.proofs.Common.{◌≡◌, take}
use Rattle.tq_plan.specs.Plans.{tables_in}
use Rattle.tq_exec.specs.Answers.{as_of, lists_at}
use Rattle.tq_reference.proofs.history.lists_at.Given as goal

abbrev pub invariant-sources : goal.invariant-sources
invariant-sources l = l.lists.items ≡ lists_at (as_of l.events l.n) l.instant (tables_in (take l.source-index l.sources))
