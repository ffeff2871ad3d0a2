use Rattle.std.proofs.Common.{◌≡◌, [], take}
use Rattle.csv.specs.Records.{fields_of, partial_of}
use Rattle.tq_diagnostics.proofs.headers.header_prefix.Given as goal

abbrev pub invariant-fields : goal.invariant-fields
invariant-fields l = record {
  fields : fields_of l.front ≡ take l.place (fields_of l.header);
  partial : partial_of l.front ≡ [];
}
