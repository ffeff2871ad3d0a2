-- The table and the values of a command's arguments. This project's own.
use Rattle.std.specs.Prelude.{◌≡◌, ℕ, List, Some, None}
use Rattle.tq_base.specs.declared.catalogue.Catalogue.{Catalogue}
use Rattle.tq_base.specs.declared.value.Value.{Value}
use Rattle.tq_base.specs.Catalogues.{table_number}
use Rattle.tq_session.specs.declared.reply.Refusal.{Refusal}
use Rattle.tq_session.specs.declared.reply.Refusal.TheVariants as refusal
use Rattle.tq_session.specs.Transcripts.{values_for}

-- the table has the name, and the values are those of the fields
pub record AreFound (catalogue : Catalogue) (name : List ℕ) (fields : List ℕ) (table : ℕ) (values : List Value) : Type 0 where
  pub named : table_number catalogue name ≡ Some table
  pub written : values_for catalogue table fields ≡ Some values

-- the table has the name, and the fields are not values of it
pub record AreBadValues (catalogue : Catalogue) (name : List ℕ) (fields : List ℕ) : Type 0 where
  pub table : ℕ
  pub named : table_number catalogue name ≡ Some table
  pub unwritten : values_for catalogue table fields ≡ None

-- some table has the name
pub record IsNamed (catalogue : Catalogue) (name : List ℕ) : Type 0 where
  pub table : ℕ
  pub named : table_number catalogue name ≡ Some table

-- why no table has the name, or the fields are not a row of it
abbrev pub NotFound : Catalogue → List ℕ → List ℕ → Refusal → Type 0
NotFound catalogue name fields refusal.UnknownTable = table_number catalogue name ≡ None
NotFound catalogue name fields refusal.BadValues = AreBadValues catalogue name fields
NotFound catalogue name fields refusal.OutOfMemory = IsNamed catalogue name
NotFound catalogue name fields refusal.BadLine = ⊥
NotFound catalogue name fields refusal.LongLine = ⊥
NotFound catalogue name fields (refusal.TooEarly last) = ⊥
NotFound catalogue name fields refusal.NoOpenRow = ⊥
NotFound catalogue name fields refusal.TooManyEvents = ⊥
NotFound catalogue name fields (refusal.Statement fault) = ⊥
NotFound catalogue name fields (refusal.Plan fault) = ⊥
NotFound catalogue name fields (refusal.TooNew count) = ⊥
NotFound catalogue name fields refusal.Closed = ⊥
