-- So many columns are marked, and each that the plan names is wanted.
use Rattle.std.proofs.Common.{◌≡◌, length}
use Rattle.tq_exec.specs.ColumnUse.{AreNamed, plan_names}
use Rattle.tq_exec.proofs.required.columns_of.Given as goal

abbrev pub invariant-columns : goal.invariant-columns
invariant-columns l = record {
  many : length l.wanted.items ≡ l.column;
  named : AreNamed (plan_names l.places.left.items l.places.right.items l.plan l.table) l.wanted.items;
}
