-- The kinds of columns that the values of a file suggest. This project's own.
use Rattle.std.specs.Prelude.{ℕ, max, List, [], ◌∷◌, length, Option, Some, None, ℤ}
use Rattle.tq_import.specs.declared.plan.Conversion.{Conversion}
use Rattle.tq_import.specs.declared.plan.Conversion.TheVariants.{Number, Text}
use Rattle.tq_import.specs.declared.plan.NumberFormat.{NumberFormat}
use Rattle.tq_import.specs.Amounts.{fraction_part, units_in, unsigned}

-- the digits after the point
abbrev pub places_of : NumberFormat → List ℕ → ℕ
places_of format field = length (fraction_part format.point (unsigned field))

abbrev pub with_places : ℕ → ℕ → Option ℤ → Conversion
with_places places more None = Text
with_places places more (Some units) = Number (max places more)

-- the kind after one more value: numbers with the most places so far, until a value is not a number
abbrev pub next_kind : NumberFormat → Conversion → List ℕ → Conversion
next_kind format Text field = Text
next_kind format (Number places) field = with_places places (places_of format field) (units_in format (places_of format field) field)

-- the kinds of the columns after one more record
abbrev pub next_kinds : NumberFormat → List Conversion → List (List ℕ) → List Conversion
next_kinds format [] fields = []
next_kinds format (kind ∷ kinds) [] = kind ∷ kinds
next_kinds format (kind ∷ kinds) (field ∷ fields) = next_kind format kind field ∷ next_kinds format kinds fields

-- the kinds of the columns after these records
abbrev pub kinds_after : NumberFormat → List Conversion → List (List (List ℕ)) → List Conversion
kinds_after format kinds [] = kinds
kinds_after format kinds (fields ∷ records) = kinds_after format (next_kinds format kinds fields) records
