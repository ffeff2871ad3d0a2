-- The columns so far and the remaining fields make the columns that all fields make.
use Rattle.std.proofs.Common.{◌≡◌, drop}
use Rattle.csv.specs.Records.{fields_of}
use Rattle.tq_event.specs.Loading.{columns_after, header_of, value_fields}
use Rattle.tq_event.proofs.header.read_header.Given as goal

abbrev pub invariant-fields : goal.invariant-fields
invariant-fields l = header_of (fields_of l.record) ≡ columns_after l.columns.items (drop l.place (value_fields (fields_of l.record)))
