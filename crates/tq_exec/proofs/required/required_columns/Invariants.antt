-- Of each table so far each column that is named is wanted.
use Rattle.std.proofs.Common.{ℕ}
use Rattle.tq_event.specs.Projection.{wanted_of, wanted_lists}
use Rattle.tq_exec.specs.ColumnUse.{AreNamed, plan_names}
use Rattle.tq_exec.proofs.required.required_columns.Given as goal

abbrev pub invariant-tables : goal.invariant-tables
invariant-tables l = (table : ℕ) → AreNamed (plan_names l.places.left.items l.places.right.items l.plan table) (wanted_of (wanted_lists l.wanted.items) table)
