-- The part weighs no more. If these places and more have all that the part reads, they have all that the whole reads.
use Rattle.tq_event.specs.Projection.{is_wanted}
use Rattle.std.proofs.Common.{◌≤◌, Bool, List}
use Rattle.tq_condition.proofs.Conditions.{weight}
use Rattle.tq_exec.specs.ColumnUse.{AreMore, TestReads}
use Rattle.tq_exec.proofs.required.+require_test.Given as goal

abbrev pub decreases-require_test : goal.decreases-require_test
decreases-require_test l = weight l.test.now

abbrev pub decreases-parts : goal.decreases-parts
decreases-parts l = weight l.part

abbrev pub invariant-parts : goal.invariant-parts
invariant-parts l = record {
  no_heavier : weight l.part ≤ weight l.fn.test;
  more : AreMore l.initial.places.items l.places.items;
  leads : (new : List Bool) → AreMore l.places.items new → TestReads (is_wanted new) l.part → TestReads (is_wanted new) l.fn.test;
}
