-- The columns with a name, one field at a time.
use Rattle.std.proofs.Common.{◌≡◌, ◌+◌, ◌++◌, ◌∷◌, [], ◌<◌, ℕ, List, true, false, Option, Some, None, Err, drop, map, length, get_or, option_to_list, Ok, Bor, ◌||◌, sym, ap, ◌∙◌, refl, arith}
use Rattle.std.specs.Option.{is_some}
use Rattle.std.proofs.lemmas.List.{drop_more, get_or-map, length-map}
use Rattle.tq_base.specs.declared.catalogue.Kind.{Kind}
use Rattle.tq_sql.specs.declared.statement.ColumnRef.{ColumnRef}
use Rattle.std.specs.List.{list_any}
use Rattle.std.specs.Str.{bytes_eq}
use Rattle.tq_base.specs.declared.catalogue.Column.{Column}
use Rattle.tq_base.specs.declared.catalogue.Schema.{Schema}
use Rattle.tq_plan.specs.declared.fault.PlanFault.TheVariants.{AmbiguousColumn, DuplicateAlias}
use Rattle.tq_plan.specs.declared.scope.Field.{Field as Borrowed}
use Rattle.tq_plan.specs.Scope.{Field, Sources, add_table, is_match, matching_columns, source_of, exactly_one}
use Rattle.tq_plan.specs.Views.{field_view}

-- the field at a place comes before those after it
pub next_field : (fields : List Borrowed) (place : ℕ) (field : Borrowed) → place < length fields → field ≡ get_or fields place field
    → drop place (map field_view fields) ≡ field_view field ∷ drop (place + 1) (map field_view fields)
next_field fields place field inside is =
    drop_more (map field_view fields) place (field_view field) (omega (arith, inside, length-map fields field_view))
    ∙ ap (λ x. x ∷ drop (place + 1) (map field_view fields)) (get_or-map field_view fields place field (field_view field) inside ∙ ap field_view (sym is))

-- a field that is not the named column is skipped
pub passed_over : (column : ColumnRef) (place : ℕ) (field : Field) (fields rest : List Field) → fields ≡ field ∷ rest → is_match column field ≡ false
    → matching_columns column place fields ≡ matching_columns column (place + 1) rest
passed_over column place field fields rest is not_meant = ap (matching_columns column place) is ∙ rw not_meant refl

-- a field that is the named column comes first
pub comes_first : (column : ColumnRef) (place : ℕ) (field : Field) (fields rest : List Field) → fields ≡ field ∷ rest → is_match column field ≡ true
    → matching_columns column place fields ≡ (place, field.1.kind) ∷ matching_columns column (place + 1) rest
comes_first column place field fields rest is meant = ap (matching_columns column place) is ∙ rw meant refl

-- a second column with the name
pub two_meant : (found : Option (ℕ × Kind)) (second : ℕ × Kind) (rest all : List (ℕ × Kind)) → is_some found ≡ true → all ≡ option_to_list found ++ second ∷ rest → exactly_one all ≡ Err AmbiguousColumn
two_meant None second rest all some is = cc
two_meant (Some first) second rest all some is = ap exactly_one is

pub none_before : (found : Option (ℕ × Kind)) (rest : List (ℕ × Kind)) → is_some found ≡ false → option_to_list found ++ rest ≡ rest
none_before None rest none = refl
none_before (Some first) rest none = cc

-- ---- aliases

-- a test of borrowed aliases is a test of the aliases
pub lent : (alias : List ℕ) (aliases : List (Bor (List ℕ))) → list_any (λ earlier. bytes_eq earlier alias) (map (λ a. a.now) aliases) ≡ list_any (λ earlier. bytes_eq earlier.now alias) aliases
lent alias [] = refl
lent alias (a ∷ aliases) = ap (λ b. bytes_eq a.now alias || b) (lent alias aliases)

pub taken : (sources : Sources) (alias : List ℕ) (table : ℕ) (schema : Schema) → list_any (λ earlier. bytes_eq earlier alias) sources.aliases ≡ true
    → add_table sources alias table (Some schema) ≡ Err DuplicateAlias
taken sources alias table schema is = rw is refl

-- the sources with one more, if no earlier one has the alias
pub added : (sources more : Sources) (alias : List ℕ) (table : ℕ) (schema : Schema) → list_any (λ earlier. bytes_eq earlier alias) sources.aliases ≡ false
    → sources.sources ++ source_of table (length sources.fields) schema.columns ∷ [] ≡ more.sources → sources.aliases ++ alias ∷ [] ≡ more.aliases → sources.fields ++ map (λ (column : Column). (alias, column)) schema.columns ≡ more.fields
    → add_table sources alias table (Some schema) ≡ Ok more
added sources more alias table schema is all aliases fields = rw is (λ i. Ok record { sources = all i; aliases = aliases i; fields = fields i })
