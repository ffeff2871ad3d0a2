-- The plan for a file with a given header. This project's own.
use Rattle.std.specs.Prelude.{◌≡◌, ◌<◌, ℕ, zero, suc, ◌&&◌, Bool, true, false, if◌then◌else◌, List, [], ◌∷◌, ◌++◌, All, length, map, not, slice_get, Option, Some, None, unwrap_or}
use Rattle.std.specs.List.{list_any}
use Rattle.std.specs.Str.{bytes_eq}
use Rattle.tq_base.specs.Names.{folded_name}
use Rattle.tq_import.specs.declared.options.ImportOptions.{ImportOptions}
use Rattle.tq_import.specs.declared.options.Rename.{Rename}
use Rattle.tq_import.specs.declared.options.GivenKind.{GivenKind}
use Rattle.tq_import.specs.declared.options.Selection.{Selection}
use Rattle.tq_import.specs.declared.options.Selection.TheVariants.{All as Every, Only, Without}
use Rattle.tq_import.specs.declared.plan.Conversion.{Conversion}
use Rattle.tq_import.specs.declared.plan.Conversion.TheVariants.{Number, Text}
use Rattle.tq_import.specs.declared.plan.PlannedColumn.{PlannedColumn}
use Rattle.tq_import.specs.declared.plan.Plan.{Plan}
use Rattle.tq_import.specs.HeaderNames.{suggested_name}
use Rattle.tq_import.specs.Records.{field_of}
use Rattle.tq_import.specs.Tables.{AreTableColumns, IsLoadable}

-- ---- columns

-- the name that the options give to the column, else the one that the header suggests
abbrev pub new_name : List Rename → List ℕ → List ℕ
new_name [] field = suggested_name field
new_name (rename ∷ renames) field = if bytes_eq rename.old field then rename.new else new_name renames field

-- the kind that the options give to the column, else this one
abbrev pub kind_for : List GivenKind → List ℕ → Conversion → Conversion
kind_for [] field found = found
kind_for (given ∷ more) field found = if bytes_eq given.name field then given.conversion else kind_for more field found

-- whether the options select the column
abbrev pub is_selected : Selection → List ℕ → Bool
is_selected Every field = true
is_selected (Only names) field = list_any (λ name. bytes_eq name field) names
is_selected (Without names) field = not (list_any (λ name. bytes_eq name field) names)

abbrev pub is_key : Option (List ℕ) → List ℕ → Bool
is_key None field = false
is_key (Some key) field = bytes_eq key field

-- a column of the table besides the key: the options select it, and it is neither the key nor a part of the period
abbrev pub is_value : ImportOptions → List ℕ → Bool
is_value options field =
    is_selected options.selection field && not (is_key options.key field) && not (bytes_eq options.from field) && not (bytes_eq options.to field)

-- the column for the field of the header at a place; without a given kind it has this one
pub record IsColumnAt (options : ImportOptions) (place : ℕ) (field : List ℕ) (found : Conversion) (column : PlannedColumn) : Type 0 where
  pub placed : column.place ≡ place
  pub named : folded_name (new_name options.renames field) ≡ Some column.name
  pub converts : column.conversion ≡ kind_for options.kinds field found

-- the kind that was found for a place; a text, if none was
abbrev pub found_at : List Conversion → ℕ → Conversion
found_at found place = unwrap_or (slice_get found place) Text

-- the places below n of the columns besides the key
abbrev pub value_places : ImportOptions → List (List ℕ) → ℕ → List ℕ
value_places options header zero = []
value_places options header (suc n) = value_places options header n ++ (if is_value options (field_of header n) then n ∷ [] else [])

-- the place of the key, if there is one
abbrev pub IsKeyPlace : Option (List ℕ) → List (List ℕ) → List ℕ → Type 0
IsKeyPlace None header places = places ≡ []
IsKeyPlace (Some key) header places = (place : ℕ) × (places ≡ place ∷ []) × (place < length header) × (field_of header place ≡ key)

-- the kind of a column without a given one: the key has whole numbers, another one the kind that was found
abbrev pub default_kind : Option (List ℕ) → List Conversion → List ℕ → ℕ → Conversion
default_kind key found field place = if is_key key field then Number 0 else found_at found place

abbrev pub IsColumn : ImportOptions → List (List ℕ) → List Conversion → PlannedColumn → Type 0
IsColumn options header found column =
    IsColumnAt options column.place (field_of header column.place) (default_kind options.key found (field_of header column.place) column.place) column

-- the places of the columns
abbrev pub places_of : List PlannedColumn → List ℕ
places_of columns = map (λ (c : PlannedColumn). c.place) columns

-- rows are numbered if there is no key
abbrev pub is_numbered : Option (List ℕ) → Bool
is_numbered None = true
is_numbered (Some key) = false

-- the column of the key alone, if there is one
pub record AreKeyColumns (options : ImportOptions) (header : List (List ℕ)) (columns : List PlannedColumn) : Type 0 where
  pub key : IsKeyPlace options.key header (places_of columns)
  pub each : (found : List Conversion) → All (IsColumn options header found) columns
  pub table : AreTableColumns (is_numbered options.key) columns

-- the columns with that of a field, if it is a column besides the key
pub record AddsValue (options : ImportOptions) (header : List (List ℕ)) (found : List Conversion) (place : ℕ) (old new : List PlannedColumn) : Type 0 where
  pub places : places_of new ≡ places_of old ++ (if is_value options (field_of header place) then place ∷ [] else [])
  pub each : All (IsColumn options header found) old → All (IsColumn options header found) new
  pub table : AreTableColumns (is_numbered options.key) old → AreTableColumns (is_numbered options.key) new

-- the key comes first, then the other columns in the order of the header; each has the name and the kind of its field
pub record AreColumns (options : ImportOptions) (header : List (List ℕ)) (found : List Conversion) (columns : List PlannedColumn) : Type 0 where
  pub key : List ℕ
  pub is_key : IsKeyPlace options.key header key
  pub places : places_of columns ≡ key ++ value_places options header (length header)
  pub each : All (IsColumn options header found) columns
  pub table : AreTableColumns (is_numbered options.key) columns

-- ---- the plan

-- the field of the header at the place has the name
abbrev pub IsAt : List (List ℕ) → List ℕ → ℕ → Type 0
IsAt header name place = (place < length header) × (field_of header place ≡ name)

-- the plan for files with this header; its columns are those of a table
pub record IsPlan (options : ImportOptions) (header : List (List ℕ)) (found : List Conversion) (plan : Plan) : Type 0 where
  pub width : plan.width ≡ length header
  pub numbered : plan.numbered ≡ is_numbered options.key
  pub columns : AreColumns options header found plan.columns
  pub loadable : IsLoadable plan
  pub from : IsAt header options.from plan.from
  pub to : IsAt header options.to plan.to
  pub numbers : plan.numbers ≡ options.numbers
  pub times : plan.times.now ≡ options.times
