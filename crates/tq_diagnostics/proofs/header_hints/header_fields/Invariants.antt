use Rattle.std.proofs.Common.{◌≡◌, take}
use Rattle.csv.specs.Records.{fields_of}
use Rattle.tq_diagnostics.specs.Views.{name_views}
use Rattle.tq_diagnostics.proofs.header_hints.header_fields.Given as goal

abbrev pub invariant-fields : goal.invariant-fields
invariant-fields l = name_views l.fields.items ≡ take l.place (fields_of l.header)
