-- The values of a row that is written as a single record, in the form of files. This project's own.
use Rattle.std.specs.Prelude.{ℕ, ◌==◌, if◌then◌else◌, List, [], ◌∷◌, length, Option, Some, None}
use Rattle.std.specs.Option.{option_and_then}
use Rattle.std.specs.Result.{result_ok}
use Rattle.tq_base.specs.declared.catalogue.Column.{Column}
use Rattle.tq_base.specs.declared.value.Value.{Value}
use Rattle.tq_event.specs.Loading.{begins_with_bom, csv_records, values_after}

-- the record, if there is exactly one
abbrev pub single_record : List (List (List ℕ)) → Option (List (List ℕ))
single_record [] = None
single_record (fields ∷ []) = Some fields
single_record (fields ∷ more ∷ records) = None

-- the values of the fields, one for each column
abbrev pub values_in : List Column → List (List ℕ) → Option (List Value)
values_in columns fields = if length fields == length columns then result_ok (values_after [] columns fields) else None

-- the values of the single record that the bytes write, without a byte order mark
abbrev pub values_of : List Column → List ℕ → Option (List Value)
values_of columns bytes = if begins_with_bom bytes then None else option_and_then (values_in columns) (single_record (csv_records bytes))
