-- The values so far and the remaining columns make the values of all columns.
use Rattle.std.proofs.Common.{◌≡◌, ℕ, List, drop}
use Rattle.csv.specs.Records.{fields_of}
use Rattle.tq_import.specs.Records.{HasFields, values_after}
use Rattle.tq_import.proofs.converting.push_values.Given as goal

abbrev pub invariant-each : goal.invariant-each
invariant-each l = (before : List (List ℕ)) → HasFields l.fn.fields before
    → (values : List (List ℕ)) × HasFields l.fields values
    × (values_after before l.format l.columns (fields_of l.record) ≡ values_after values l.format (drop l.column-index l.columns) (fields_of l.record))
