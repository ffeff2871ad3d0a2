-- Hints for the header of a file that is not a table file: another separator, reserved words, other names of the period.
-- This project's own.
use Rattle.std.specs.Prelude.{ℕ, ◌-◌, ◌==◌, ◌&&◌, ◌||◌, nat_lt, Bool, if◌then◌else◌, List, [], ◌∷◌, ◌++◌, codes, drop, is_some, length, position, slice_get, take, Option, None, Some, ◌+◌}
use Rattle.std.specs.List.{list_any}
use Rattle.std.specs.Str.{str_eq_ignore_ascii_case}
use Rattle.tq_base.specs.Names.{is_reserved}
use Rattle.tq_diagnostics.specs.Fields.{field_of, shown_value}
use Rattle.tq_diagnostics.specs.Hints.{or_else}

-- ---- separators

-- whether the byte is among the bytes
abbrev pub has_byte : ℕ → List ℕ → Bool
has_byte byte field = list_any (λ b. b == byte) field

-- the message for a header without commas that has another separator: `;`, a tab or `|`
abbrev pub separator_line : List ℕ → List ℕ
separator_line field =
    if has_byte 59 field then codes "  fields are separated by commas, not by `;`: use `tq import --delimiter ';'`\n"
    else (if has_byte 9 field then codes "  fields are separated by commas, not by tabs: use `tq import --delimiter '\\t'`\n"
    else (if has_byte 124 field then codes "  fields are separated by commas, not by `|`: use `tq import --delimiter '|'`\n" else []))

-- the same, if the header is one field
abbrev pub separator_hint : List (List ℕ) → List ℕ
separator_hint fields = if length fields == 1 then separator_line (field_of (slice_get fields 0)) else []

-- ---- reserved words

-- `int` or `text`, in any ASCII case
abbrev pub is_kind : List ℕ → Bool
is_kind word = str_eq_ignore_ascii_case (codes "int") word || str_eq_ignore_ascii_case (codes "text") word

-- the name before a colon at this place, if it is a reserved word and a kind follows; else nothing
abbrev pub reserved_before : List ℕ → Option ℕ → List ℕ
reserved_before field None = []
reserved_before field (Some place) = if is_reserved (take place field) && is_kind (drop (place + 1) field) then take place field else []

abbrev pub reserved_name : List ℕ → List ℕ
reserved_name field = reserved_before field (position (λ b. b == 58) field)

-- the first reserved word that names a column, or nothing
abbrev pub first_reserved : List (List ℕ) → List ℕ
first_reserved [] = []
first_reserved (field ∷ fields) = or_else (reserved_name field) (first_reserved fields)

abbrev pub reserved_word_line : List ℕ → List ℕ
reserved_word_line word = codes "  `" ++ shown_value word ++ codes "` is a reserved word\n"

-- the message for a reserved word, if there is one
abbrev pub reserved_line : List ℕ → List ℕ
reserved_line word = if length word == 0 then [] else reserved_word_line word

abbrev pub reserved_hint : List (List ℕ) → List ℕ
reserved_hint fields = reserved_line (first_reserved fields)

-- ---- the period

-- the first field with this name, in any ASCII case
abbrev pub field_named : List ℕ → List (List ℕ) → Option (List ℕ)
field_named name [] = None
field_named name (field ∷ fields) = if str_eq_ignore_ascii_case name field then Some field else field_named name fields

-- names of starts and ends that files often have
abbrev pub period_names : List (List ℕ × List ℕ)
period_names =
    (codes "from", codes "to")
    ∷ (codes "valid_from", codes "valid_to")
    ∷ (codes "valid from", codes "valid to")
    ∷ (codes "validfrom", codes "validto")
    ∷ (codes "valid_from", codes "valid_until")
    ∷ (codes "start", codes "end")
    ∷ (codes "start_date", codes "end_date")
    ∷ (codes "start date", codes "end date")
    ∷ (codes "startdate", codes "enddate")
    ∷ (codes "from_date", codes "to_date")
    ∷ (codes "date_from", codes "date_to")
    ∷ (codes "effective_from", codes "effective_to")
    ∷ (codes "begin", codes "end")
    ∷ (codes "begda", codes "endda")
    ∷ (codes "from", codes "until")
    ∷ []

-- two fields, if there are both
abbrev pub both : Option (List ℕ) → Option (List ℕ) → Option (List ℕ × List ℕ)
both None end = None
both (Some start) None = None
both (Some start) (Some end) = Some (start, end)

-- the fields with the names of a start and an end
abbrev pub pair_named : List ℕ × List ℕ → List (List ℕ) → Option (List ℕ × List ℕ)
pair_named names fields = both (field_named names.0 fields) (field_named names.1 fields)

-- the fields with the first names of which there are both
abbrev pub first_pair : List (List ℕ × List ℕ) → List (List ℕ) → Option (List ℕ × List ℕ)
first_pair [] fields = None
first_pair (names ∷ more) fields = if is_some (pair_named names fields) then pair_named names fields else first_pair more fields

-- the fields that are a start and an end by their names
unfoldable pub period_pair : List (List ℕ) → Option (List ℕ × List ℕ)
period_pair fields = first_pair period_names fields

-- how a file whose period has these names is imported
abbrev pub pair_line : List ℕ × List ℕ → List ℕ
pair_line pair =
    codes "  the last two columns are from,to: use `tq import --from \"" ++ shown_value pair.0 ++ codes "\" --to \"" ++ shown_value pair.1 ++ codes "\"`\n"

-- how a file with a period of other names is imported
abbrev pub period_line : Option (List ℕ × List ℕ) → List ℕ
period_line None = codes "  the last two columns are from,to: use `tq import --from NAME --to NAME` if they have other names\n"
period_line (Some pair) = pair_line pair

-- whether the last two fields are `from` and `to`
abbrev pub ends_with_period : List (List ℕ) → Bool
ends_with_period fields =
    str_eq_ignore_ascii_case (codes "from") (field_of (slice_get fields (length fields - 2)))
    && str_eq_ignore_ascii_case (codes "to") (field_of (slice_get fields (length fields - 1)))

-- the message for a header of two fields or more that does not end with from,to
abbrev pub period_hint : List (List ℕ) → List ℕ
period_hint fields = if nat_lt (length fields) 2 || ends_with_period fields then [] else period_line (period_pair fields)

-- ---- a header

-- all hints for a header of these fields
abbrev pub fields_hint : List (List ℕ) → List ℕ
fields_hint fields = separator_hint fields ++ reserved_hint fields ++ period_hint fields

-- the same, if there is a header
abbrev pub header_hint : Option (List (List ℕ)) → List ℕ
header_hint None = []
header_hint (Some fields) = fields_hint fields
