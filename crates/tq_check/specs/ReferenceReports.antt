-- The lines of the summary about references. This project's own.
use Rattle.std.specs.Prelude.{◌≡◌, ℕ, ◌+◌, List, [], ◌∷◌, ◌++◌, codes, decimal, slice_get, slice_index_or, take}
use Rattle.std.specs.Fmt.{signed_decimal}
use Rattle.std.specs.List.{flat_map}
use Rattle.std.specs.Option.{option_map_or}
use Rattle.tq_base.specs.Contents.{Int, Text}
use Rattle.tq_base.specs.RowLists.{RowList}
use Rattle.tq_base.specs.declared.catalogue.Column.{Column}
use Rattle.tq_base.specs.declared.catalogue.Schema.{Schema}
use Rattle.tq_base.specs.declared.form.Form.{Form}
use Rattle.tq_base.specs.declared.fragment.Fragment.{Fragment}
use Rattle.tq_base.specs.declared.value.Value.{Value}
use Rattle.tq_check.specs.KeyReports.{bound_text, period_text}
use Rattle.tq_check.specs.Orphans.{linked_rows, orphan_count, orphan_value, IsOrphanOrder, Linked}
use Rattle.tq_check.specs.declared.missing.Missing.{Missing}
use Rattle.tq_check.specs.declared.orphans.Orphan.{Orphan}
use Rattle.tq_check.specs.declared.references.ColumnPlace.{ColumnPlace}
use Rattle.tq_check.specs.declared.references.Reference.{Reference}
use Rattle.tq_event.specs.declared.file.Tables.{Tables}
use Rattle.tq_shown.specs.Printable.{printable_text}

-- a number in decimal; a text with `?` for each hidden character
abbrev pub shown_value : Value → List ℕ
shown_value (Int n) = signed_decimal n
shown_value (Text t) = printable_text t

-- the rows of no table
abbrev pub no_rows : RowList
no_rows = record { width = 0; items = [] }

-- the rows and the columns of a reference
abbrev pub linked_in : List RowList → Reference → Linked
linked_in tables reference =
    linked_rows (slice_index_or tables reference.child.table no_rows).items (slice_index_or tables reference.parent.table no_rows).items reference

-- the value of a row, on a line of its own
abbrev pub value_line : List Fragment → ℕ → Orphan → List ℕ
value_line children column row = codes "\n    value " ++ shown_value (orphan_value children column row)

-- a period without a parent
abbrev pub missing_text : Form → Missing → List ℕ
missing_text form missing = codes " missing " ++ bound_text form missing.from ++ codes " - " ++ bound_text form missing.to

-- a row: its value, its record, of which the header is record 1, its period, and the first maximal period within it in
-- which it has no parent
unfoldable pub orphan_text : Form → List Fragment → ℕ → Orphan → List ℕ
orphan_text form children column row =
    value_line children column row ++ codes " record " ++ decimal (row.place + 2) ++ period_text form row.start row.end ++ missing_text form row.missing

-- the name of a column
abbrev pub column_name : Schema → ℕ → List ℕ
column_name schema column = option_map_or (λ (c : Column). c.name) (slice_get schema.columns column) []

-- a column after its table and a point
abbrev pub place_text : List Schema → ColumnPlace → List ℕ
place_text schemas place = option_map_or (λ (schema : Schema). schema.name ++ 46 ∷ column_name schema place.column) (slice_get schemas place.table) []

abbrev pub reference_head : List Schema → Reference → List ℕ
reference_head schemas reference = codes "reference " ++ place_text schemas reference.child ++ codes "=" ++ place_text schemas reference.parent

-- the number, and the first hundred of the rows
abbrev pub listed_text : Form → List Fragment → ℕ → ℕ → List Orphan → List ℕ
listed_text form children column number order =
    codes "\n  orphans      " ++ decimal number ++ flat_map (orphan_text form children column) (take 100 order) ++ 10 ∷ []

-- the text is the lines about one reference: how many rows of the child have no parent at some time, and the first
-- hundred of them by value, start, end and place
pub record IsReferenceText (form : Form) (schemas : List Schema) (linked : Linked) (reference : Reference) (text : List ℕ) : Type 0 where
  pub order : List Orphan
  pub is_order : IsOrphanOrder linked order
  pub text_is : text ≡ reference_head schemas reference ++ listed_text form linked.children linked.column (orphan_count linked) order

-- the text is the lines about the references, in their order
unfoldable pub AreReferenceTexts : Form → Tables → List Reference → List ℕ → Type 0
AreReferenceTexts form tables [] text = text ≡ []
AreReferenceTexts form tables (reference ∷ references) text =
    (lines : List ℕ) × (rest : List ℕ) × IsReferenceText form tables.catalogue.tables (linked_in tables.rows reference) reference lines
    × AreReferenceTexts form tables references rest × (text ≡ lines ++ rest)
