-- The table that a plan describes, and the rows that records mean in it. This project's own.
use Rattle.std.specs.Prelude.{ℕ, ◌+◌, ◌-◌, pos, Bool, if◌then◌else◌, List, [], ◌∷◌, ◌++◌, All, codes, map, unwrap_or}
use Rattle.tq_base.specs.declared.catalogue.Column.{Column}
use Rattle.tq_base.specs.declared.catalogue.Kind.{Kind}
use Rattle.tq_base.specs.declared.catalogue.Kind.TheVariants as kind
use Rattle.tq_base.specs.declared.value.Value.{Value}
use Rattle.tq_base.specs.Catalogues.{IsTable}
use Rattle.tq_base.specs.Contents.{Int, Text as TextValue}
use Rattle.tq_event.specs.Entries.{Entry}
use Rattle.tq_event.specs.Laws.{IsFoldedName}
use Rattle.tq_import.specs.declared.plan.Conversion.{Conversion}
use Rattle.tq_import.specs.declared.plan.Conversion.TheVariants.{Number, Text}
use Rattle.tq_import.specs.declared.plan.NumberFormat.{NumberFormat}
use Rattle.tq_import.specs.declared.plan.PlannedColumn.{PlannedColumn}
use Rattle.tq_import.specs.declared.plan.Plan.{Plan}
use Rattle.tq_import.specs.Amounts.{units_in}
use Rattle.tq_import.specs.Records.{field_of}
use Rattle.tq_import.specs.Times.{bound_in, instant_in}

-- ---- columns

-- numbers become integers
abbrev pub table_kind : Conversion → Kind
table_kind (Number places) = kind.Int
table_kind Text = kind.Text

abbrev pub table_column : PlannedColumn → Column
table_column column = record { name = column.name; kind = table_kind column.conversion }

-- the column of row numbers, if rows are numbered, and the planned columns
abbrev pub columns_with : Bool → List PlannedColumn → List Column
columns_with numbered columns = (if numbered then record { name = codes "row"; kind = kind.Int } ∷ [] else []) ++ map table_column columns

abbrev pub table_columns : Plan → List Column
table_columns plan = columns_with plan.numbered plan.columns

-- the columns are those of a table: 1 to 16, with different names, the first an integer column; the names are folded
pub record AreTableColumns (numbered : Bool) (columns : List PlannedColumn) : Type 0 where
  pub table : (name : List ℕ) → IsTable (record { name = name; columns = columns_with numbered columns })
  pub named : All (λ (c : PlannedColumn). IsFoldedName c.name) columns

-- a table file of the plan has a valid header
abbrev pub IsLoadable : Plan → Type 0
IsLoadable plan = AreTableColumns plan.numbered plan.columns

-- ---- rows

-- the value that a field means: the number of its units, or the text itself
abbrev pub value_in : NumberFormat → Conversion → List ℕ → Value
value_in format (Number places) field = Int (unwrap_or (units_in format places field) (pos 0))
value_in format Text field = TextValue field

-- the values of the columns
abbrev pub values_in : NumberFormat → List PlannedColumn → List (List ℕ) → List Value
values_in format columns fields = map (λ (c : PlannedColumn). value_in format c.conversion (field_of fields c.place)) columns

-- the number of the row, if rows are numbered; the header is record 1
abbrev pub number_in : Bool → ℕ → List Value
number_in numbered number = if numbered then Int (pos (number - 1)) ∷ [] else []

-- the row that the record with this number means, if it has no fault
abbrev pub entry_in : Plan → ℕ → ℕ → List (List ℕ) → Entry
entry_in plan table number fields = record {
  table = table;
  values = number_in plan.numbered number ++ values_in plan.numbers plan.columns fields;
  from = unwrap_or (instant_in plan.times.now (field_of fields plan.from)) 0;
  to = unwrap_or (bound_in plan.times.now (field_of fields plan.to)) 0;
}

-- the rows of the records, the first of which has this number
abbrev pub entries_in : Plan → ℕ → ℕ → List (List (List ℕ)) → List Entry
entries_in plan table number [] = []
entries_in plan table number (fields ∷ records) = entry_in plan table number fields ∷ entries_in plan table (number + 1) records
