-- The tables so far are cut.
use Rattle.std.proofs.Common.{◌≡◌, ◌<◌, ℕ, get_or, length}
use Rattle.tq_exec.specs.declared.read_pieces.TablePieces.{TablePieces}
use Rattle.tq_exec.specs.Reads.{IsCut}
use Rattle.tq_exec.proofs.read_pieces.cut_tables.Given as goal

abbrev pub invariant-tables : goal.invariant-tables
invariant-tables l = record {
  many : length l.tables.items ≡ l.number;
  each : (k : ℕ) (d : TablePieces) → k < length l.tables.items → IsCut l.db.events l.n l.plan k (get_or l.tables.items k d);
}
