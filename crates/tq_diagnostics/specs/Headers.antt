-- The first invalid column of a header. This project's own.
use Rattle.std.specs.Prelude.{◌≡◌, ◌<◌, ◌+◌, ◌-◌, ℕ, Bool, true, false, List, [], ◌∷◌, ◌++◌, codes, is_ok, length, min, slice_get, take, Option, None, Some}
use Rattle.tq_event.specs.Loading.{header_of}
use Rattle.tq_diagnostics.specs.Fields.{field_of, shown_value}

-- the header of the first n fields
abbrev pub header_prefix : List (List ℕ) → ℕ → List (List ℕ)
header_prefix fields count = (take count fields ++ codes "from" ∷ []) ++ codes "to" ∷ []

-- whether the first n fields make a valid header
abbrev pub reads_to : List (List ℕ) → ℕ → Bool
reads_to fields count = is_ok (header_of (header_prefix fields count))

-- the number of fields that are checked: those before the last two, at most the number of columns that a table can have
abbrev pub checked_fields : List (List ℕ) → ℕ
checked_fields fields = min (length fields - 2) 16

-- up to each of the first n fields there is a valid header
abbrev pub AllRead : List (List ℕ) → ℕ → Type 0
AllRead fields count = (place : ℕ) → place < count → reads_to fields (place + 1) ≡ true

-- the number of the first field up to which there is none, from 0
abbrev pub IsFirstBad : List (List ℕ) → Option ℕ → Type 0
IsFirstBad fields None = AllRead fields (checked_fields fields)
IsFirstBad fields (Some place) = (place < checked_fields fields) × (reads_to fields (place + 1) ≡ false) × AllRead fields place

-- a field as it is shown in the message
abbrev pub column_text : List (List ℕ) → Option ℕ → List ℕ
column_text fields None = []
column_text fields (Some place) = codes "invalid column `" ++ shown_value (field_of (slice_get fields place)) ++ codes "`: "

-- the first field of a header that is not a valid column after those before it, as text
abbrev pub IsColumn : List (List ℕ) → List ℕ → Type 0
IsColumn fields text = (place : Option ℕ) × IsFirstBad fields place × (text ≡ column_text fields place)
