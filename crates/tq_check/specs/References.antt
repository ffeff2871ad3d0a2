-- References from a column of a table, the child, to a column of a table, the parent. This project's own.
use Rattle.std.specs.Prelude.{◌≡◌, ◌≢◌, ◌<◌, ℕ, List, ◌∷◌, ◌++◌, Option, Some, None, length, position, slice_get, take}
use Rattle.std.specs.List.{AllZip}
use Rattle.std.specs.Str.{str_eq_ignore_ascii_case}
use Rattle.tq_base.specs.Catalogues.{table_number}
use Rattle.tq_base.specs.declared.catalogue.Catalogue.{Catalogue}
use Rattle.tq_base.specs.declared.catalogue.Column.{Column}
use Rattle.tq_base.specs.declared.catalogue.Kind.{Kind}
use Rattle.tq_base.specs.declared.catalogue.Schema.{Schema}
use Rattle.tq_check.specs.declared.references.ColumnName.{ColumnName}
use Rattle.tq_check.specs.declared.references.ColumnPlace.{ColumnPlace}
use Rattle.tq_check.specs.declared.references.Part.{Part}
use Rattle.tq_check.specs.declared.references.Part.TheVariants as part
use Rattle.tq_check.specs.declared.references.Reference.{Reference}
use Rattle.tq_check.specs.declared.references.ReferenceFault.{ReferenceFault}
use Rattle.tq_check.specs.declared.references.ReferenceFault.TheVariants.{UnknownTable, UnknownColumn, KindMismatch, OutOfMemory}
use Rattle.tq_check.specs.declared.references.ReferenceNames.{ReferenceNames}
use Rattle.tq_check.specs.declared.references.RefusedReference.{RefusedReference}

-- a table's name, a point, and a column's name
abbrev pub column_name_text : ColumnName → List ℕ
column_name_text name = name.table.items ++ 46 ∷ name.column.items

-- the word of a reference: the child's column, an equals sign, the parent's column
abbrev pub reference_word : ReferenceNames → List ℕ
reference_word names = column_name_text names.child ++ 61 ∷ column_name_text names.parent

-- ---- the columns that are meant

-- the number of the first column with this name, ignoring ASCII case
abbrev pub column_number : List Column → List ℕ → Option ℕ
column_number columns name = position (λ (c : Column). str_eq_ignore_ascii_case c.name name) columns

-- the table with this number is the one with the name
pub record IsTableNamed (catalogue : Catalogue) (name : List ℕ) (table : ℕ) (schema : Schema) : Type 0 where
  pub number : table_number catalogue name ≡ Some table
  pub is_schema : slice_get catalogue.tables table ≡ Some schema

-- the column at the place has this table's and this column's name, and this kind
pub record IsColumnNamed (catalogue : Catalogue) (name : ColumnName) (place : ColumnPlace) (kind : Kind) : Type 0 where
  pub schema : Schema
  pub table : IsTableNamed catalogue name.table.items place.table schema
  pub number : column_number schema.columns name.column.items ≡ Some place.column
  pub column : Column
  pub is_column : slice_get schema.columns place.column ≡ Some column
  pub kind_is : column.kind ≡ kind

-- the reference is from the one named column to the other, and both have one kind
pub record IsReferenceOf (catalogue : Catalogue) (names : ReferenceNames) (reference : Reference) : Type 0 where
  pub kind : Kind
  pub child : IsColumnNamed catalogue names.child reference.child kind
  pub parent : IsColumnNamed catalogue names.parent reference.parent kind

-- both columns are in tables of the catalogue
pub record IsWithin (catalogue : Catalogue) (reference : Reference) : Type 0 where
  pub child : reference.child.table < length catalogue.tables
  pub parent : reference.parent.table < length catalogue.tables

-- ---- why there is no reference

abbrev pub name_of : Part → ReferenceNames → ColumnName
name_of part.Child names = names.child
name_of part.Parent names = names.parent

-- there is no table with the name
abbrev pub HasNoTable : Catalogue → ColumnName → Type 0
HasNoTable catalogue name = table_number catalogue name.table.items ≡ None

-- the table has no column with the name
pub record HasNoColumn (catalogue : Catalogue) (name : ColumnName) : Type 0 where
  pub table : ℕ
  pub schema : Schema
  pub is_table : IsTableNamed catalogue name.table.items table schema
  pub none : column_number schema.columns name.column.items ≡ None

-- both columns are there, and their kinds differ
pub record HaveOtherKinds (catalogue : Catalogue) (names : ReferenceNames) : Type 0 where
  pub place : ColumnPlace
  pub kind : Kind
  pub child : IsColumnNamed catalogue names.child place kind
  pub other_place : ColumnPlace
  pub other_kind : Kind
  pub parent : IsColumnNamed catalogue names.parent other_place other_kind
  pub differ : kind ≢ other_kind

-- why a column of a reference was not found
abbrev pub IsColumnFault : Catalogue → ColumnName → Part → ReferenceFault → Type 0
IsColumnFault catalogue name of (UnknownTable other) = (other ≡ of) × HasNoTable catalogue name
IsColumnFault catalogue name of (UnknownColumn other) = (other ≡ of) × HasNoColumn catalogue name
IsColumnFault catalogue name of KindMismatch = ⊥
IsColumnFault catalogue name of OutOfMemory = Unit {0}

-- why there is no reference
abbrev pub IsReferenceFault : Catalogue → ReferenceNames → ReferenceFault → Type 0
IsReferenceFault catalogue names (UnknownTable of) = HasNoTable catalogue (name_of of names)
IsReferenceFault catalogue names (UnknownColumn of) = HasNoColumn catalogue (name_of of names)
IsReferenceFault catalogue names KindMismatch = HaveOtherKinds catalogue names
IsReferenceFault catalogue names OutOfMemory = Unit {0}

-- the names with this number have the fault, and all names before them are those of references
pub record IsFirstFault (catalogue : Catalogue) (all : List ReferenceNames) (number : ℕ) (fault : ReferenceFault) : Type 0 where
  pub names : ReferenceNames
  pub at_number : slice_get all number ≡ Some names
  pub is_fault : IsReferenceFault catalogue names fault
  pub before : List Reference
  pub resolved : AllZip (IsReferenceOf catalogue) (take number all) before

-- unless memory ran out, the fault is that of the first names with a fault
abbrev pub IsRefused : Catalogue → List ReferenceNames → RefusedReference → Type 0
IsRefused catalogue all refused = refused.fault ≢ OutOfMemory → IsFirstFault catalogue all refused.number refused.fault
