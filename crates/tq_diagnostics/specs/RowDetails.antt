-- The message for the values of a row that a session's line names. This project's own.
use Rattle.std.specs.Prelude.{ℕ, ◌==◌, if◌then◌else◌, List, [], ◌++◌, codes, decimal, length, Option, None, Some}
use Rattle.tq_base.specs.Catalogues.{table_number}
use Rattle.tq_base.specs.Names.{folded}
use Rattle.tq_base.specs.declared.catalogue.Catalogue.{Catalogue}
use Rattle.tq_base.specs.declared.catalogue.Column.{Column}
use Rattle.tq_diagnostics.specs.Details.{line_of}
use Rattle.tq_diagnostics.specs.Fields.{value_detail}
use Rattle.tq_diagnostics.specs.Listing.{numbered_columns, unknown_table_lines}
use Rattle.tq_diagnostics.specs.Records.{record_of}

-- the fields of a record; none if there is no record
abbrev pub record_fields : Option (List (List ℕ)) → List (List ℕ)
record_fields None = []
record_fields (Some fields) = fields

-- the message for another number of values than there are columns
abbrev pub value_count_line : ℕ → ℕ → List ℕ
value_count_line has wanted = codes "  the table has " ++ decimal wanted ++ codes " columns, but the line has " ++ decimal has ++ codes " values\n"

-- the message for the fields as values of the columns, or nothing if they are
abbrev pub values_line : List Column → List (List ℕ) → List ℕ
values_line columns fields =
    if length fields == length columns then line_of (value_detail columns fields) else value_count_line (length fields) (length columns)

-- for a table that does not exist the tables; else the message for the values, which are written as one record
abbrev pub lines_of_row : Catalogue → List ℕ → List ℕ → Option ℕ → List ℕ
lines_of_row catalogue name values None = unknown_table_lines catalogue (folded name)
lines_of_row catalogue name values (Some number) = values_line (numbered_columns catalogue (Some number)) (record_fields (record_of values 1))

-- The message for a row of the table of this name.
abbrev pub row_detail : Catalogue → List ℕ → List ℕ → List ℕ
row_detail catalogue name values = lines_of_row catalogue name values (table_number catalogue name)
