-- There is a field for each of the columns so far.
use Rattle.std.proofs.Common.{◌++◌, map, take}
use Rattle.tq_import.specs.Imports.{column_field, number_header}
use Rattle.tq_import.specs.Records.{HasFields}
use Rattle.tq_import.proofs.writing.header_fields.Given as goal

abbrev pub invariant-columns : goal.invariant-columns
invariant-columns l = HasFields l.fields (number_header l.plan.numbered ++ map column_field (take l.column-index l.plan.columns))
