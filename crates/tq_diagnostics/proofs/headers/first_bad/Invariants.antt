use Rattle.csv.specs.Records.{fields_of}
use Rattle.tq_diagnostics.specs.Headers.{AllRead}
use Rattle.tq_diagnostics.proofs.headers.first_bad.Given as goal

abbrev pub invariant-fields : goal.invariant-fields
invariant-fields l = AllRead (fields_of l.header) l.place
