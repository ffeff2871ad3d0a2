use Rattle.std.proofs.Common.{◌≡◌, drop}
use Rattle.csv.specs.Records.{fields_of}
use Rattle.tq_diagnostics.specs.Fields.{value_detail}
use Rattle.tq_diagnostics.proofs.fields.push_value_detail.Given as goal

abbrev pub invariant-columns : goal.invariant-columns
invariant-columns l = record {
  text : l.text.items ≡ l.initial.text.items;
  rest : value_detail (drop l.place l.columns) (drop l.place (fields_of l.record)) ≡ value_detail l.columns (fields_of l.record);
}
