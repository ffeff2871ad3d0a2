-- The rows so far are those of the first tables, if the parts' rows are right.
use Rattle.std.proofs.Common.{◌≡◌, ◌+◌, ℕ, Bool, List, Some, length, slice_get}
use Rattle.std.specs.Prelude.{All}
use Rattle.std.specs.Vec.Iter.{into_iter_items}
use Rattle.tq_base.specs.declared.form.Form.{Form}
use Rattle.tq_base.specs.declared.catalogue.Schema.{Schema}
use Rattle.tq_base.specs.RowLists.{RowList}
use Rattle.tq_event.specs.Projection.{wanted_of}
use Rattle.tq_load.specs.Parts.{AreProjectedOfTable, HoldsAt, IsRead}
use Rattle.tq_load.proofs.combining.whole_tables.Given as goal

abbrev pub invariant-parts : goal.invariant-parts
invariant-parts l = record {
  many : length l.tables.items + length (into_iter_items l.part-iterator) ≡ length l.files;
  left : (form : Form) (wanted : List (List Bool)) (schemas : List Schema) → All (IsRead form l.files wanted schemas) l.fn.parts.items → All (IsRead form l.files wanted schemas) (into_iter_items l.part-iterator);
  parsed : (form : Form) (wanted : List (List Bool)) (schemas : List Schema) → All (IsRead form l.files wanted schemas) l.fn.parts.items → (table : ℕ) (rows : RowList) → slice_get l.tables.items table ≡ Some rows
      → HoldsAt l.files schemas table (λ file schema. AreProjectedOfTable form schema.columns (wanted_of wanted table) file.bytes rows);
}
