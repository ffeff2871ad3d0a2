-- The schemas so far are those of the first files.
use Rattle.std.proofs.Common.{◌≡◌, ◌≤◌, ℕ, Ok, length, take}
use Rattle.tq_event.specs.Loading.{columns_of, next_name}
use Rattle.tq_load.specs.Parts.{HoldsAt}
use Rattle.tq_load.proofs.headers.read_schemas.Given as goal

abbrev pub invariant-files : goal.invariant-files
invariant-files l = record {
  many : length l.schemas.items ≡ l.file-index;
  few : length l.schemas.items ≤ 16;
  named : (table : ℕ) → HoldsAt l.files l.schemas.items table (λ file schema. next_name (take table l.schemas.items) file.name ≡ Ok schema.name);
  headed : (table : ℕ) → HoldsAt l.files l.schemas.items table (λ file schema. columns_of file.bytes ≡ Ok schema.columns);
}
