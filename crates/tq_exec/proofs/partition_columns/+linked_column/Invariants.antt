-- The part weighs no more, and rows that pass the whole pass it.
use Rattle.std.proofs.Common.{◌≤◌}
use Rattle.std.specs.Prelude.{IsTrue}
use Rattle.tq_agg.specs.Grouping.{Row}
use Rattle.tq_condition.specs.Conditions.{passes}
use Rattle.tq_condition.proofs.Conditions.{weight}
use Rattle.tq_exec.proofs.partition_columns.+linked_column.Given as goal

abbrev pub decreases-linked_column : goal.decreases-linked_column
decreases-linked_column l = weight l.test.now

abbrev pub decreases-parts : goal.decreases-parts
decreases-parts l = weight l.part

abbrev pub invariant-parts : goal.invariant-parts
invariant-parts l = record {
  no_heavier : weight l.part ≤ weight l.test;
  whole : (row : Row) → IsTrue (passes l.test row) → IsTrue (passes l.part row);
}
