-- Which values a table accepts, and which lists of tables are a catalogue. This project's own.
use Rattle.std.specs.Prelude.{◌≡◌, ◌≢◌, ℕ, ◌<◌, ◌≤◌, FitsSigned, List, [], ◌∷◌, length, map, position, All, AllPairs, slice_get, IfSome, Option}
use Rattle.std.specs.Int.{w64}
use Rattle.std.specs.Str.{str_eq_ignore_ascii_case}
use Rattle.tq_base.specs.declared.catalogue.Kind.{Kind}
use Rattle.tq_base.specs.declared.catalogue.Kind.TheVariants as kind
use Rattle.tq_base.specs.declared.catalogue.Column.{Column}
use Rattle.tq_base.specs.declared.catalogue.Schema.{Schema}
use Rattle.tq_base.specs.declared.catalogue.Catalogue.{Catalogue}
use Rattle.tq_base.specs.declared.value.Value.{Value}
use Rattle.tq_base.specs.Contents.{Int, Text}

-- an integer column takes numbers of 64 signed bits, a text column takes texts of at most 1,000 bytes
abbrev pub IsOfKind : Kind → Value → Type 0
IsOfKind kind.Int (Int n) = FitsSigned w64 n
IsOfKind kind.Int (Text t) = ⊥
IsOfKind kind.Text (Int n) = ⊥
IsOfKind kind.Text (Text t) = length t ≤ 1000

-- one value for each column, of the column's kind
abbrev pub Fit : List Column → List Value → Type 0
Fit [] [] = Unit {0}
Fit [] (v ∷ vs) = ⊥
Fit (c ∷ cs) [] = ⊥
Fit (c ∷ cs) (v ∷ vs) = IsOfKind c.kind v × Fit cs vs

-- the number of the table with this name, ignoring ASCII case
abbrev pub table_number : Catalogue → List ℕ → Option ℕ
table_number catalogue name = position (λ (s : Schema). str_eq_ignore_ascii_case s.name name) catalogue.tables

-- 1 to 16 columns with different names; the first is an integer column, the key
pub record IsTable (schema : Schema) : Type 0 where
  pub some : 0 < length schema.columns
  pub few : length schema.columns ≤ 16
  pub names : AllPairs (λ a b. a ≢ b) (map (λ (c : Column). c.name) schema.columns)
  pub key : IfSome (slice_get schema.columns 0) (λ c. c.kind ≡ kind.Int)

-- at most 16 tables with different names
pub record IsCatalogue (catalogue : Catalogue) : Type 0 where
  pub few : length catalogue.tables ≤ 16
  pub names : AllPairs (λ a b. a ≢ b) (map (λ (s : Schema). s.name) catalogue.tables)
  pub each : All IsTable catalogue.tables
