-- Lists of the tables, sources and columns that exist. This project's own.
use Rattle.std.specs.Prelude.{ℕ, if◌then◌else◌, List, [], ◌∷◌, ◌++◌, codes, map, Option, None, Some, slice_get, pos, Bool, false}
use Rattle.std.specs.List.{flat_map}
use Rattle.std.specs.Str.{bytes_eq}
use Rattle.tq_base.specs.Catalogues.{table_number}
use Rattle.tq_base.specs.declared.catalogue.Catalogue.{Catalogue}
use Rattle.tq_base.specs.declared.catalogue.Column.{Column}
use Rattle.tq_base.specs.declared.catalogue.Schema.{Schema}
use Rattle.tq_plan.specs.Scope.{alias_of}
use Rattle.tq_plan.specs.declared.fault.PlanFault.TheVariants.{TypeMismatch, UnknownColumn}
use Rattle.tq_sql.specs.declared.statement.ColumnRef.{ColumnRef}
use Rattle.tq_sql.specs.declared.statement.SourceRef.{SourceRef}
use Rattle.tq_sql.specs.declared.statement.Term.{Term}
use Rattle.tq_sql.specs.declared.statement.Term.TheVariants as term
use Rattle.tq_diagnostics.specs.Nearest.{nearest_hint}
use Rattle.tq_diagnostics.specs.Probes.{Probe, is_refused}
use Rattle.tq_diagnostics.specs.Probes as ask

-- a name after two spaces
abbrev pub listed_name : List ℕ → List ℕ
listed_name name = codes "  " ++ name

-- a label and names, on a line of their own
abbrev pub listed : List ℕ → List (List ℕ) → List ℕ
listed label names = codes "  " ++ label ++ codes ":" ++ flat_map listed_name names ++ codes "\n"

-- the tables of the catalogue
abbrev pub table_line : Catalogue → List ℕ
table_line catalogue = listed (codes "tables") (map (λ (s : Schema). s.name) catalogue.tables)

-- the aliases of the sources
abbrev pub source_line : List SourceRef → List ℕ
source_line sources = listed (codes "sources") (map alias_of sources)

abbrev pub schema_columns : Option Schema → List Column
schema_columns None = []
schema_columns (Some schema) = schema.columns

abbrev pub numbered_columns : Catalogue → Option ℕ → List Column
numbered_columns catalogue None = []
numbered_columns catalogue (Some number) = schema_columns (slice_get catalogue.tables number)

-- the columns of the table of this name
abbrev pub table_columns : Catalogue → List ℕ → List Column
table_columns catalogue name = numbered_columns catalogue (table_number catalogue name)

-- the columns of a source
unfoldable pub column_line : Catalogue → SourceRef → List ℕ
column_line catalogue source =
    listed (codes "columns of " ++ alias_of source) (map (λ (c : Column). c.name) (table_columns catalogue source.table))

abbrev pub column_lines : Catalogue → List SourceRef → List ℕ
column_lines catalogue sources = flat_map (column_line catalogue) sources

-- the first source with this alias
abbrev pub source_called : List ℕ → List SourceRef → Option SourceRef
source_called alias [] = None
source_called alias (source ∷ sources) = if bytes_eq (alias_of source) alias then Some source else source_called alias sources

-- the names of the columns of a source
abbrev pub columns_in : Catalogue → SourceRef → List (List ℕ)
columns_in catalogue source = map (λ (c : Column). c.name) (table_columns catalogue source.table)

-- the sources, after the one whose alias is nearest
abbrev pub unknown_source_lines : List SourceRef → List ℕ → List ℕ
unknown_source_lines sources alias = nearest_hint alias (map alias_of sources) ++ source_line sources

abbrev pub lines_of_source : Catalogue → List SourceRef → List ℕ → Option SourceRef → List ℕ
lines_of_source catalogue sources alias None = unknown_source_lines sources alias
lines_of_source catalogue sources alias (Some source) = column_line catalogue source

-- for an unknown column that names a source: the columns of that source, or the sources if none has the alias; for one
-- that names none: the columns of each source. The nearest name is before the sources, and before the columns of each.
abbrev pub lines_for_column : Catalogue → List SourceRef → List ℕ → Option (List ℕ) → List ℕ
lines_for_column catalogue sources column None = nearest_hint column (flat_map (columns_in catalogue) sources) ++ column_lines catalogue sources
lines_for_column catalogue sources column (Some alias) = lines_of_source catalogue sources alias (source_called alias sources)

-- the same for the column of a probe; without one the columns of each source
abbrev pub unknown_lines : Catalogue → List SourceRef → Option ColumnRef → List ℕ
unknown_lines catalogue sources None = column_lines catalogue sources
unknown_lines catalogue sources (Some column) = lines_for_column catalogue sources column.column column.source

-- the tables, after the one that is nearest to a name
abbrev pub unknown_table_lines : Catalogue → List ℕ → List ℕ
unknown_table_lines catalogue name = nearest_hint name (map (λ (s : Schema). s.name) catalogue.tables) ++ table_line catalogue

-- the aliases of those sources over which the probe alone has no unknown column
abbrev pub sources_with : Catalogue → Probe → List SourceRef → List (List ℕ)
sources_with catalogue probe [] = []
sources_with catalogue probe (source ∷ sources) =
    (if is_refused catalogue UnknownColumn (source ∷ []) probe then [] else alias_of source ∷ []) ++ sources_with catalogue probe sources

-- the sources that have the column
abbrev pub sources_having : Catalogue → List SourceRef → Probe → List ℕ
sources_having catalogue sources probe = listed (codes "sources with this column") (sources_with catalogue probe sources)

-- the left side of a comparison
abbrev pub left_of : Probe → Option Term
left_of ask.Count = None
left_of (ask.Column column) = None
left_of (ask.Sum column group) = None
left_of (ask.Equality left right) = Some left

-- whether the term is a text, which cannot be compared with a number
abbrev pub is_text : Catalogue → List SourceRef → Option Term → Bool
is_text catalogue sources None = false
is_text catalogue sources (Some t) = is_refused catalogue TypeMismatch sources (ask.Equality t (term.Int (pos 0)))

-- which kind is compared with which
abbrev pub mismatch_line : Bool → List ℕ
mismatch_line text = if text then codes "  a text cannot be compared with a number\n" else codes "  a number cannot be compared with a text\n"
