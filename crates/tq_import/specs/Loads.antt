-- A table file that was imported is read as it was meant. This project's own.
use Rattle.std.specs.Prelude.{◌≡◌, ◌<◌, ◌≤◌, ◌^◌, ℕ, ◌+◌, List, [], ◌∷◌, ◌++◌, Result, Ok, Some, length, sum_by}
use Rattle.tq_base.specs.Names.{folded_name}
use Rattle.tq_base.specs.Results.{and_then}
use Rattle.tq_event.specs.Entries.{Entry}
use Rattle.tq_event.specs.Loading.{contents_of, csv_records, event_count, table_contents}
use Rattle.tq_event.specs.declared.file.TableFile.{TableFile}
use Rattle.tq_import.specs.declared.fault.NumberedFault.{NumberedFault}
use Rattle.tq_import.specs.declared.plan.Plan.{Plan}
use Rattle.tq_import.specs.Imports.{at_number, import_of, table_header}
use Rattle.tq_import.specs.Records.{import_record}
use Rattle.tq_import.specs.Tables.{IsLoadable, entries_in, table_columns}
use Rattle.tq_import.specs.Times.{form_of}

-- the fields of the table file for these records, the first of which has this number
abbrev pub imported_records : Plan → ℕ → List (List (List ℕ)) → Result (List (List (List ℕ))) NumberedFault
imported_records plan number [] = Ok []
imported_records plan number (fields ∷ records) =
    and_then (at_number number (import_record plan number fields)) (λ line.
    and_then (imported_records plan (number + 1) records) (λ lines.
    Ok (line ∷ lines)))

-- the text of an import is read as the header and the fields of each record
abbrev pub ImportsAreReadBack : Type 0
ImportsAreReadBack = (plan : Plan) (records : List (List (List ℕ))) (text : List ℕ) → IsLoadable plan → import_of plan records ≡ Ok text
    → (lines : List (List (List ℕ))) × (imported_records plan 2 records ≡ Ok lines) × (csv_records text ≡ table_header plan ∷ lines)

-- the text of an import loads, as any table of a catalogue: it has the planned columns, and the rows that the records mean. The
-- loader's limit on events must allow for them
abbrev pub ImportsLoad : Type 0
ImportsLoad = (plan : Plan) (records : List (List (List ℕ))) (text : List ℕ) (limit table : ℕ) (before : List Entry)
    → IsLoadable plan → import_of plan records ≡ Ok text → length records < 2 ^ 63
    → sum_by event_count (before ++ entries_in plan table 2 records) ≤ limit
    → table_contents (form_of plan.times.now) limit table before text ≡ Ok (table_columns plan, before ++ entries_in plan table 2 records)

-- a file with the text of an import holds one table with these columns and rows
abbrev pub ImportedFilesLoad : Type 0
ImportedFilesLoad = (plan : Plan) (records : List (List (List ℕ))) (file : TableFile) (name : List ℕ) (limit : ℕ)
    → IsLoadable plan → import_of plan records ≡ Ok file.bytes → folded_name file.name ≡ Some name → length records < 2 ^ 63
    → sum_by event_count (entries_in plan 0 2 records) ≤ limit
    → contents_of (form_of plan.times.now) (file ∷ []) limit
    ≡ Ok (record { tables = record { name = name; columns = table_columns plan } ∷ []; entries = entries_in plan 0 2 records })
