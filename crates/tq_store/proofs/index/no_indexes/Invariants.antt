use Rattle.std.proofs.Common.{◌≡◌, ◌≤◌, length, take, []}
use Rattle.std.specs.Prelude.{ℕ, All}
use Rattle.tq_store.specs.Index.{IsIndexOf, columns_of, widths_of}
use Rattle.tq_store.proofs.index.no_indexes.Given as goal

abbrev pub invariant-tables : goal.invariant-tables
invariant-tables l = record {
  len : length l.indexes.items ≡ l.table-index;
  each : All (λ index. (table : ℕ) → IsIndexOf [] table index) l.indexes.items;
  narrow : All (λ width. width ≤ 4294967295) (widths_of l.indexes.items);
  widths : widths_of l.indexes.items ≡ columns_of (take l.table-index l.tables);
}
