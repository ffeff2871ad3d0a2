use Rattle.std.proofs.Common.{◌≡◌, length, []}
use Rattle.std.specs.Prelude.{ℕ, All}
use Rattle.tq_snapshot.specs.OpenIndex.{AreTableRows}
use Rattle.tq_snapshot.proofs.open_index.no_tables.Given as goal

abbrev pub invariant-tables : goal.invariant-tables
invariant-tables l = record {
  len : length l.none.items ≡ l.counter;
  each : All (λ rows. (table : ℕ) → AreTableRows [] table rows) l.none.items;
}
