-- Resolution of names: the columns of a query's sources, one source after the other. After SQL, where a table's own
-- name serves as its alias if none is given.
use Rattle.std.specs.Prelude.{ℕ, ◌+◌, Bool, true, false, ◌&&◌, if◌then◌else◌, List, [], ◌∷◌, ◌++◌, length, map, Option, Some, None, Result, Ok, Err, slice_get}
use Rattle.std.specs.List.{list_any}
use Rattle.std.specs.Str.{bytes_eq}
use Rattle.tq_base.specs.declared.catalogue.Kind.{Kind}
use Rattle.tq_base.specs.declared.catalogue.Kind.TheVariants as kind
use Rattle.tq_base.specs.declared.catalogue.Column.{Column}
use Rattle.tq_base.specs.declared.catalogue.Schema.{Schema}
use Rattle.tq_base.specs.declared.catalogue.Catalogue.{Catalogue}
use Rattle.tq_base.specs.Catalogues.{table_number}
use Rattle.tq_base.specs.Results.{and_then}
use Rattle.tq_sql.specs.declared.statement.ColumnRef.{ColumnRef}
use Rattle.tq_sql.specs.declared.statement.SourceRef.{SourceRef}
use Rattle.tq_plan.specs.declared.fault.PlanFault.{PlanFault}
use Rattle.tq_plan.specs.declared.plans.QuerySource.{QuerySource}
use Rattle.tq_plan.specs.declared.fault.PlanFault.TheVariants.{UnknownTable, UnknownColumn, AmbiguousColumn, DuplicateAlias}

-- a column, and the alias of its source
abbrev pub Field : Type 0
Field = List ℕ × Column

-- the sources so far, their aliases, and all their columns
pub record Sources : Type 0 where
  pub sources : List QuerySource
  pub aliases : List (List ℕ)
  pub fields : List Field

abbrev pub no_sources : Sources
no_sources = record { sources = []; aliases = []; fields = [] }

abbrev pub alias_or_name : List ℕ → Option (List ℕ) → List ℕ
alias_or_name name None = name
alias_or_name name (Some alias) = alias

-- the alias of a source, or its table's name if none is given
abbrev pub alias_of : SourceRef → List ℕ
alias_of source = alias_or_name source.table source.alias

abbrev pub is_number : Kind → Bool
is_number kind.Int = true
is_number kind.Text = false

-- whether the first column holds numbers
abbrev pub is_numbered : List Column → Bool
is_numbered [] = false
is_numbered (column ∷ columns) = is_number column.kind

-- a source with these columns, whose first one is at the place
abbrev pub source_of : ℕ → ℕ → List Column → QuerySource
source_of table first columns = record { table = table; first = first; width = length columns; numbered = is_numbered columns }

abbrev pub add_table : Sources → List ℕ → ℕ → Option Schema → Result Sources PlanFault
add_table sources alias table None = Err UnknownTable
add_table sources alias table (Some schema) =
    if list_any (λ earlier. bytes_eq earlier alias) sources.aliases then Err DuplicateAlias
    else Ok record {
      sources = sources.sources ++ source_of table (length sources.fields) schema.columns ∷ [];
      aliases = sources.aliases ++ alias ∷ [];
      fields = sources.fields ++ map (λ column. (alias, column)) schema.columns;
    }

abbrev pub add_numbered : Catalogue → Sources → List ℕ → Option ℕ → Result Sources PlanFault
add_numbered catalogue sources alias None = Err UnknownTable
add_numbered catalogue sources alias (Some table) = add_table sources alias table (slice_get catalogue.tables table)

-- the sources so far, and this one
abbrev pub add_source : Catalogue → Sources → SourceRef → Result Sources PlanFault
add_source catalogue sources source = add_numbered catalogue sources (alias_of source) (table_number catalogue source.table)

-- these sources, and then the others
abbrev pub sources_after : Catalogue → Sources → List SourceRef → Result Sources PlanFault
sources_after catalogue sources [] = Ok sources
sources_after catalogue sources (source ∷ rest) = and_then (add_source catalogue sources source) (λ more. sources_after catalogue more rest)

-- ---- columns

-- whether the alias is the requested one, if one is requested
abbrev pub is_source : Option (List ℕ) → List ℕ → Bool
is_source None alias = true
is_source (Some asked) alias = bytes_eq asked alias

-- whether the field is the named column
abbrev pub is_match : ColumnRef → Field → Bool
is_match column field = is_source column.source field.0 && bytes_eq column.column field.1.name

-- the places and kinds of the columns with the name; the first field has the given place
abbrev pub matching_columns : ColumnRef → ℕ → List Field → List (ℕ × Kind)
matching_columns column place [] = []
matching_columns column place (field ∷ fields) =
    if is_match column field then (place, field.1.kind) ∷ matching_columns column (place + 1) fields else matching_columns column (place + 1) fields

abbrev pub exactly_one : List (ℕ × Kind) → Result (ℕ × Kind) PlanFault
exactly_one [] = Err UnknownColumn
exactly_one (meaning ∷ []) = Ok meaning
exactly_one (meaning ∷ another ∷ more) = Err AmbiguousColumn

-- the place and kind of the only column with the name
abbrev pub resolved : List Field → ColumnRef → Result (ℕ × Kind) PlanFault
resolved fields column = exactly_one (matching_columns column 0 fields)
