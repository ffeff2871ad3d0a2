-- The lists that are left are those of the tables that are left.
use Rattle.std.proofs.Common.{◌≡◌, ◌<◌, ℕ, drop, get_or, length}
use Rattle.tq_base.specs.RowLists.{RowList}
use Rattle.tq_exec.specs.Answers.{as_of}
use Rattle.tq_exec.specs.Reads.{AreRead, IsReadTable, all_pieces}
use Rattle.tq_exec.proofs.reads.join_pieces.Given as goal

abbrev pub invariant-tables : goal.invariant-tables
invariant-tables l = record {
  read : AreRead l.db.catalogue l.db.events l.n l.plan.window (all_pieces (drop l.table-index l.pieces)) l.lists.items;
  many : length l.tables.items ≡ l.table-index;
  each : (k : ℕ) (d : RowList) → k < length l.tables.items → IsReadTable l.db.catalogue (as_of l.db.events l.n) l.plan k (get_or l.tables.items k d);
}
